use Rattle.finite_colimits.specs.Labels.{AreNumbered}
use Rattle.finite_colimits.proofs.numbering.numbered.Given as goal

abbrev pub invariant-loop-y : goal.invariant-loop-y
invariant-loop-y l = AreNumbered l.labels l.y l.numbers l.least
