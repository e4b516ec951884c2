use Rattle.finite_limits.specs.Matches.{AreThreads}
use Rattle.finite_limits.proofs.matches.threads.Given as goal

abbrev pub invariant-loop-y : goal.invariant-loop-y
invariant-loop-y l = AreThreads l.n l.values l.y l.heads.items l.next.items
