use Rattle.std.proofs.Common.{◌≡◌, true, [], ◌∷◌, refl, sym, ◌∙◌}
use Rattle.topos_model.specs.presheaves.Colimits.{IsPushout}
use Rattle.topos_session.specs.Functors.{functor_at}
use Rattle.topos_session.specs.Constructions.{between, to, functor_map_at, maps_with_domain, AsPushout}
use Rattle.topos_session.proofs.LargeConstructions.{both_between, two_over}
use Rattle.topos_session.proofs.constructions.pushout_of.Goals as goal

pub returns-in-Over-clause-stop : goal.returns-in-Over-clause-stop
returns-in-Over-clause-stop c =
    let k = c.args.cat.now in
    let so = c.args.so.now in
    let m = functor_map_at so.maps c.args.m in
    let n = functor_map_at so.maps c.args.n in
    let parallel : maps_with_domain so.maps c.args.m c.args.n ≡ true =
    both_between _ _ _ c.in_ok-first.ensures.first_between c.in_ok-first.ensures.second_between (rw (c.in_ok-first.ensures.first, c.in_ok-first.ensures.second) at (sym c.have_same_domain.ensures ∙ c.if-not-have_same_domain.false)) in
    two_over k c.args.room (maps_with_domain so.maps c.args.m c.args.n) (AsPushout k so c.args.m c.args.n c.args.functor) parallel
    (IsPushout k (functor_at so.world.functors m.dom) (functor_at so.world.functors m.cod) (functor_at so.world.functors n.cod) m.map n.map)
    (λ Z l r. between (to so.maps c.args.m) c.args.functor l ∷ between (to so.maps c.args.n) c.args.functor r ∷ []) (λ Z l r has. (l, r, has, refl)) c.in_ok-pushout.field-0 c.in-Over.is
    (rw (c.functor-x.ensures, c.functor-y.ensures, c.functor-z.ensures, c.in_ok-first.ensures.first, c.in_ok-first.ensures.second) at c.in_ok-pushout.ensures.exists)
    (rw (c.functor-x.ensures, c.functor-y.ensures, c.functor-z.ensures, c.in_ok-first.ensures.first, c.in_ok-first.ensures.second) at c.in_ok-pushout.ensures.over)
