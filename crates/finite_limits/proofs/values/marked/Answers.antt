use Rattle.std.proofs.Common.{◌<◌, get_or, arith}
use Rattle.finite_limits.proofs.ImageParts.{no_values, one_more_value}
use Rattle.finite_limits.proofs.values.marked.Goals as goal

pub loop-y-init : goal.loop-y-init
loop-y-init c = rw c.in_ok-marks.ensures (no_values c.args.m.now c.args.size)

pub set-requires : goal.set-requires
set-requires c =
    let low : get_or c.args.m.now c.loop-y.y-index 0 < c.args.size = c.requires c.loop-y.y-index c.loop-y-test.true in
    omega (arith, c.loop-y.invariant.places)

pub loop-y-preserved : goal.loop-y-preserved
loop-y-preserved c = rw c.set.ensures (one_more_value c.loop-y.y-index c.args.m.now c.args.size c.loop-y.marks c.loop-y.invariant (c.requires c.loop-y.y-index c.loop-y-test.true))
