use Rattle.std.proofs.Common.{[], ◌∷◌, refl, subst, ◌∙◌}
use Rattle.std.specs.List.{flat_map}
use Rattle.finite_lists.specs.Members.{In}
use Rattle.std.proofs.lemmas.Result.{err_from_is_err_and, on_ok_weaker, IfErr-weaker}
use Rattle.topos_model.specs.declared.ty.Ty.{Base}
use Rattle.topos_model.specs.Laws.{IsCategory, IsTopology}
use Rattle.topos_model.specs.statements.Needs.{parts}
use Rattle.topos_session.specs.Statements.{map_needs, term_map_fault, AreSealed, IsSealStop, IsMapStop}
use Rattle.topos_session.proofs.LawfulDeclarations.{unchanged_kept}
use Rattle.topos_session.proofs.FormulaAnswers.{other_topology, seal_stops, term_sealed}
use Rattle.topos_session.proofs.TermMaps.{map_type_stops, map_names}
use Rattle.topos_session.proofs.term_maps.seal_map.Goals as goal

pub returns-then-under-ne0-clause-stop : goal.returns-then-under-ne0-clause-stop
returns-then-under-ne0-clause-stop c =
    let so = c.args.so.now in
    other_topology so c.args.under (term_map_fault so.maps c.args.ty.now c.args.term.now) (map_needs so.maps c.args.ty.now c.args.term.now) c.if-under-ne0.true

pub returns-then-under-ne0-clause-unchanged : goal.returns-then-under-ne0-clause-unchanged
returns-then-under-ne0-clause-unchanged c = unchanged_kept c.args.so.now c.args.so.now refl

pub returns-in_err-types-clause-stop : goal.returns-in_err-types-clause-stop
returns-in_err-types-clause-stop c =
    let p = err_from_is_err_and c.from_residual.result c.from_residual.ensures.1 in
    rw (p.1, p.2) (map_type_stops c.args.so.now c.args.under c.args.ty.now c.args.term.now c.if-under-ne0.false c.in_err-types.field-0.0 c.in_err-types.ensures.stop)

pub returns-in_err-types-clause-unchanged : goal.returns-in_err-types-clause-unchanged
returns-in_err-types-clause-unchanged c = let p = err_from_is_err_and c.from_residual.result c.from_residual.ensures.1 in rw p.1 (unchanged_kept c.args.so.now c.args.so.now refl)

pub seal_types-requires-clause-named : goal.seal_types-requires-clause-named
seal_types-requires-clause-named c =
    let so = c.args.so.now in
    λ m i. map_names so so.world.site.category c.requires.lawful c.args.ty.now c.args.term.now c.requires.type_range c.requires.range m
    ((c.in_ok-types.ensures.types.counted (Base m)).0 (subst (λ l. In (flat_map parts l) (Base m)) c.as_slice.ensures i))

pub returns-clause-sealed : goal.returns-clause-sealed
returns-clause-sealed c =
    let so = c.args.so.now in
    let T = c.args.ty.now in
    let t = c.args.term.now in
    let is = c.in_ok-types.ensures.types in
    let lawful = subst IsCategory c.cat.ensures c.laws.ensures.lawful in
    let top = subst IsTopology (c.top-top.ensures.site ∙ c.site.ensures) c.top-top.ensures.topology.topology in
    on_ok_weaker c.seal_types.result
    (λ sealed. record {
      codomain = is.codomain;
      sealed = term_sealed so c.args.under (term_map_fault so.maps T t) (map_needs so.maps T t) c.if-under-ne0.false is.faultless c.in_ok-types.types is.counted (T ∷ []) t is.codomain so.world.site.category is.typing refl
          c.requires.lawful (map_names so so.world.site.category c.requires.lawful T t c.requires.type_range c.requires.range) lawful top c.seal_types.new.so (subst (λ l. AreSealed l so c.seal_types.new.so) c.as_slice.ensures sealed);
    })
    c.seal_types.ensures.sealed

pub returns-clause-stop : goal.returns-clause-stop
returns-clause-stop c =
    let so = c.args.so.now in
    let T = c.args.ty.now in
    let t = c.args.term.now in
    let is = c.in_ok-types.ensures.types in
    IfErr-weaker c.seal_types.result (λ stop. IsSealStop c.as_slice.result.now so stop) (λ stop. IsMapStop c.args.under T t so stop)
    (λ stop h. seal_stops so c.args.under (term_map_fault so.maps T t) (map_needs so.maps T t) c.if-under-ne0.false is.faultless c.in_ok-types.types is.counted stop (subst (λ l. IsSealStop l so stop) c.as_slice.ensures h))
    c.seal_types.ensures.stop
