use Rattle.std.proofs.Common.{arith}
use Rattle.topos_session.proofs.ShownFunctors.{first_pairs, all_pairs}
use Rattle.topos_session.proofs.shapes.pairs.Goals as goal

pub loop-x-preserved : goal.loop-x-preserved
loop-x-preserved c = rw c.in_ok-push.ensures.ok (first_pairs c.args.images.now c.loop-x.x _ c.loop-x.pairs (omega (arith, c.requires)) c.loop-x.invariant)

pub returns : goal.returns
returns c = all_pairs c.args.images.now c.loop-x.x c.loop-x.pairs (omega (arith, c.requires)) c.loop-x.invariant
