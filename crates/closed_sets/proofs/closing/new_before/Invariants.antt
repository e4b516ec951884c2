use Rattle.closed_sets.specs.Adding.{KeepsBefore}
use Rattle.closed_sets.proofs.closing.new_before.Given as goal

abbrev pub invariant-loop-k : goal.invariant-loop-k
invariant-loop-k l = KeepsBefore l.k l.last l.next
