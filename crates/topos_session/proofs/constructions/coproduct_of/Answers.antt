use Rattle.std.proofs.Common.{true, [], ◌∷◌, refl}
use Rattle.topos_model.specs.presheaves.Colimits.{IsCoproduct}
use Rattle.topos_session.specs.Functors.{functor_at}
use Rattle.topos_session.specs.Constructions.{between, AsCoproduct}
use Rattle.topos_session.proofs.LargeConstructions.{two_over}
use Rattle.topos_session.proofs.constructions.coproduct_of.Goals as goal

pub returns-in-Over-clause-stop : goal.returns-in-Over-clause-stop
returns-in-Over-clause-stop c =
    let k = c.args.cat.now in
    let so = c.args.so.now in
    two_over k c.args.room true (AsCoproduct k so c.args.x c.args.y c.args.functor) refl (IsCoproduct k (functor_at so.world.functors c.args.x) (functor_at so.world.functors c.args.y))
    (λ Z l r. between c.args.x c.args.functor l ∷ between c.args.y c.args.functor r ∷ []) (λ Z l r has. (l, r, has, refl)) c.in_ok-coproduct.field-0 c.in-Over.is
    (rw (c.functor.ensures, c.functor-2.ensures) at c.in_ok-coproduct.ensures.exists)
    (rw (c.functor.ensures, c.functor-2.ensures) at c.in_ok-coproduct.ensures.over)
