use Rattle.finite_limits.specs.Kept.{AreValuesMarked}
use Rattle.finite_limits.proofs.values.marked.Given as goal

abbrev pub invariant-loop-y : goal.invariant-loop-y
invariant-loop-y l = AreValuesMarked l.y-index l.m l.size l.marks
