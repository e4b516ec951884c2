use Rattle.std.proofs.Common.{[], ◌∷◌, refl}
use Rattle.topos_model.specs.presheaves.Limits.{IsImage}
use Rattle.topos_session.specs.Functors.{functor_at}
use Rattle.topos_session.specs.Constructions.{between, between_functors, functor_map_at, from, to, AsImage}
use Rattle.topos_session.proofs.LargeConstructions.{two_over}
use Rattle.topos_session.proofs.constructions.image_of.Goals as goal

pub returns-in-Over-clause-stop : goal.returns-in-Over-clause-stop
returns-in-Over-clause-stop c =
    let k = c.args.cat.now in
    let so = c.args.so.now in
    let m = functor_map_at so.maps c.args.m in
    two_over k c.args.room (between_functors so.maps c.args.m) (AsImage k so c.args.m c.args.functor) c.in_ok-map.ensures.between
    (IsImage k (functor_at so.world.functors m.dom) (functor_at so.world.functors m.cod) m.map)
    (λ Z l r. between (from so.maps c.args.m) c.args.functor l ∷ between c.args.functor (to so.maps c.args.m) r ∷ []) (λ Z l r has. (l, r, has, refl)) c.in_ok-image.field-0 c.in-Over.is
    (rw (c.functor-x.ensures, c.functor-y.ensures, c.in_ok-map.ensures.is) at c.in_ok-image.ensures.exists)
    (rw (c.functor-x.ensures, c.functor-y.ensures, c.in_ok-map.ensures.is) at c.in_ok-image.ensures.over)
