use Rattle.finite_colimits.proofs.LabelSteps.{own_classes, one_more_pair}
use Rattle.std.proofs.Common.{length}
use Rattle.finite_colimits.proofs.labels.join_all.Goals as goal

pub loop-x-init : goal.loop-x-init
loop-x-init c = own_classes c.args.m.now c.args.n.now c.args.labels.now c.requires.own

pub loop-x-preserved : goal.loop-x-preserved
loop-x-preserved c = one_more_pair c.loop-x.x c.args.m.now c.args.n.now (length c.args.labels.now) c.loop-x.labels c.join.new.labels c.loop-x.invariant c.join.ensures
