use Rattle.std.proofs.Common.{◌≡◌, true, [], ◌∷◌, refl, sym, ◌∙◌}
use Rattle.topos_model.specs.presheaves.Colimits.{IsCoequalizer}
use Rattle.topos_session.specs.Functors.{functor_at}
use Rattle.topos_session.specs.Constructions.{between, to, functor_map_at, parallel_maps, AsCoequalizer}
use Rattle.topos_session.proofs.LargeConstructions.{both_between, one_over}
use Rattle.topos_session.proofs.constructions.coequalizer_of.Goals as goal

pub returns-in-Over-clause-stop : goal.returns-in-Over-clause-stop
returns-in-Over-clause-stop c =
    let k = c.args.cat.now in
    let so = c.args.so.now in
    let m = functor_map_at so.maps c.args.m in
    let n = functor_map_at so.maps c.args.n in
    let parallel : (parallel_maps so.maps c.args.m c.args.n) ≡ true =
    both_between _ _ _ c.in_ok-first.ensures.first_between c.in_ok-first.ensures.second_between (rw (c.in_ok-first.ensures.first, c.in_ok-first.ensures.second) at (sym c.are_parallel.ensures ∙ c.if-not-are_parallel.false)) in
    one_over k c.args.room (parallel_maps so.maps c.args.m c.args.n) (AsCoequalizer k so c.args.m c.args.n c.args.functor) parallel
    (IsCoequalizer k (functor_at so.world.functors m.dom) (functor_at so.world.functors m.cod) m.map n.map)
    (λ Z l. between (to so.maps c.args.m) c.args.functor l ∷ []) (λ Z l has. (l, has, refl)) c.in_ok-coequalizer.field-0 c.in-Over.is
    (rw (c.functor-x.ensures, c.functor-y.ensures, c.in_ok-first.ensures.first, c.in_ok-first.ensures.second) at c.in_ok-coequalizer.ensures.exists)
    (rw (c.functor-x.ensures, c.functor-y.ensures, c.in_ok-first.ensures.first, c.in_ok-first.ensures.second) at c.in_ok-coequalizer.ensures.over)
