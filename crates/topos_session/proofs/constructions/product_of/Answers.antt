use Rattle.std.proofs.Common.{true, [], ◌∷◌, refl}
use Rattle.topos_model.specs.presheaves.Limits.{IsProduct}
use Rattle.topos_session.specs.Functors.{functor_at}
use Rattle.topos_session.specs.Constructions.{between, AsProduct}
use Rattle.topos_session.proofs.LargeConstructions.{two_over}
use Rattle.topos_session.proofs.constructions.product_of.Goals as goal

pub returns-in-Over-clause-stop : goal.returns-in-Over-clause-stop
returns-in-Over-clause-stop c =
    let k = c.args.cat.now in
    let so = c.args.so.now in
    two_over k c.args.room true (AsProduct k so c.args.x c.args.y c.args.functor) refl (IsProduct k (functor_at so.world.functors c.args.x) (functor_at so.world.functors c.args.y))
    (λ Z l r. between c.args.functor c.args.x l ∷ between c.args.functor c.args.y r ∷ []) (λ Z l r has. (l, r, has, refl)) c.in_ok-product.field-0 c.in-Over.is
    (rw (c.functor.ensures, c.functor-2.ensures) at c.in_ok-product.ensures.exists)
    (rw (c.functor.ensures, c.functor-2.ensures) at c.in_ok-product.ensures.over)
