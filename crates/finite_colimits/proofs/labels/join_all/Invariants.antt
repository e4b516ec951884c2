use Rattle.std.proofs.Common.{length}
use Rattle.finite_colimits.specs.Labels.{HaveClasses}
use Rattle.finite_colimits.proofs.labels.join_all.Given as goal

abbrev pub invariant-loop-x : goal.invariant-loop-x
invariant-loop-x l = HaveClasses l.x l.m l.n (length l.initial.labels) l.labels
