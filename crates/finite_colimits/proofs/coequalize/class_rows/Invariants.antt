use Rattle.finite_colimits.specs.Classes.{AreClassRows}
use Rattle.finite_colimits.proofs.coequalize.class_rows.Given as goal

abbrev pub invariant-loop-c : goal.invariant-loop-c
invariant-loop-c l = AreClassRows l.c l.y.sizes l.m l.n l.numbers l.least
