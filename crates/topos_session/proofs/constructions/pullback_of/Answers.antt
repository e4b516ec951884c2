use Rattle.std.proofs.Common.{◌≡◌, true, [], ◌∷◌, refl, sym, ◌∙◌}
use Rattle.topos_model.specs.presheaves.Limits.{IsPullback}
use Rattle.topos_session.specs.Functors.{functor_at}
use Rattle.topos_session.specs.Constructions.{between, from, functor_map_at, maps_with_codomain, AsPullback}
use Rattle.topos_session.proofs.LargeConstructions.{both_between, two_over}
use Rattle.topos_session.proofs.constructions.pullback_of.Goals as goal

pub returns-in-Over-clause-stop : goal.returns-in-Over-clause-stop
returns-in-Over-clause-stop c =
    let k = c.args.cat.now in
    let so = c.args.so.now in
    let m = functor_map_at so.maps c.args.m in
    let n = functor_map_at so.maps c.args.n in
    let parallel : maps_with_codomain so.maps c.args.m c.args.n ≡ true =
    both_between _ _ _ c.in_ok-first.ensures.first_between c.in_ok-first.ensures.second_between (rw (c.in_ok-first.ensures.first, c.in_ok-first.ensures.second) at (sym c.have_same_codomain.ensures ∙ c.if-not-have_same_codomain.false)) in
    two_over k c.args.room (maps_with_codomain so.maps c.args.m c.args.n) (AsPullback k so c.args.m c.args.n c.args.functor) parallel
    (IsPullback k (functor_at so.world.functors m.dom) (functor_at so.world.functors n.dom) (functor_at so.world.functors m.cod) m.map n.map)
    (λ Z l r. between c.args.functor (from so.maps c.args.m) l ∷ between c.args.functor (from so.maps c.args.n) r ∷ []) (λ Z l r has. (l, r, has, refl)) c.in_ok-pullback.field-0 c.in-Over.is
    (rw (c.functor-x.ensures, c.functor-y.ensures, c.functor-z.ensures, c.in_ok-first.ensures.first, c.in_ok-first.ensures.second) at c.in_ok-pullback.ensures.exists)
    (rw (c.functor-x.ensures, c.functor-y.ensures, c.functor-z.ensures, c.in_ok-first.ensures.first, c.in_ok-first.ensures.second) at c.in_ok-pullback.ensures.over)
