use Rattle.std.proofs.Common.{arith}
use Rattle.topos_session.proofs.ShownFunctors.{functor_shown}
use Rattle.topos_session.proofs.shapes.shape.Goals as goal

pub returns : goal.returns
returns c =
    functor_shown c.args.cat.now c.args.functor.now c.in_ok-sizes.sizes c.loop-f.along c.loop-f.f (rw c.sizes.ensures at c.in_ok-sizes.ensures) c.loop-f.invariant
    (omega (arith, c.arrows-f-end.ensures.count, c.requires.arrows))
