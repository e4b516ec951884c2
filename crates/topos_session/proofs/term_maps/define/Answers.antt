use Rattle.std.proofs.Common.{◌≡◌, true, List, [], ◌∷◌, length, sym, ap, subst, ◌∙◌}
use Rattle.std.proofs.lemmas.Result.{err_from_is_err_and}
use Rattle.topos_model.specs.declared.context.MapTable.{MapTable}
use Rattle.term_ranges.specs.Ranges.{is_type_in_range, is_term_in_range}
use Rattle.formula_answers.specs.Formulas.{IsTermOver}
use Rattle.sealed_world.specs.SealedWorlds.{CountedWorld}
use Rattle.topos_session.proofs.TermMaps.{map_stopped, map_defined}
use Rattle.topos_session.proofs.term_maps.define.Goals as goal

pub returns-in_err-seal_map-clause-stop : goal.returns-in_err-seal_map-clause-stop
returns-in_err-seal_map-clause-stop c =
    let so = c.args.so.now in
    let p = err_from_is_err_and c.from_residual.result c.from_residual.ensures.1 in
    rw (p.1, p.2) (map_stopped so.world.site.category so c.args.under c.args.map c.args.ty.now c.args.term.now c.in_err-seal_map.field-0.0 c.in_err-seal_map.ensures.stop)

pub term_map-requires-clause-known : goal.term_map-requires-clause-known
term_map-requires-clause-known c =
    let h = c.in_ok-seal_map.ensures.sealed in
    let mid = c.seal_map.new.so in (
      h.codomain,
      subst (λ (m : List MapTable). IsTermOver mid.world m (c.args.ty.now ∷ []) c.args.term.now h.codomain) (sym c.tables.ensures) h.sealed.term,
    )

pub term_map-requires-clause-type_range : goal.term_map-requires-clause-type_range
term_map-requires-clause-type_range c =
    let h = c.in_ok-seal_map.ensures.sealed in
    subst (λ (w : CountedWorld). is_type_in_range (length w.functors) c.args.ty.now ≡ true) (sym h.sealed.needs.types.grown.is) c.requires.type_range

pub term_map-requires-clause-range : goal.term_map-requires-clause-range
term_map-requires-clause-range c =
    let h = c.in_ok-seal_map.ensures.sealed in
    let n = ap (λ (w : CountedWorld). length w.functors) h.sealed.needs.types.grown.is in
    subst (λ l. is_term_in_range (length c.seal_map.new.so.world.functors) l c.args.term.now ≡ true) (sym (ap length (c.tables.ensures ∙ h.sealed.needs.maps)))
    (subst (λ k. is_term_in_range k (length c.args.so.now.maps) c.args.term.now ≡ true) (sym n) c.requires.range)

pub returns-clause-answer : goal.returns-clause-answer
returns-clause-answer c =
    let so = c.args.so.now in
    let h = c.in_ok-seal_map.ensures.sealed in
    let mid = c.seal_map.new.so in
    let term : IsTermOver mid.world c.tables.result.now (c.args.ty.now ∷ []) c.args.term.now h.codomain =
    subst (λ (m : List MapTable). IsTermOver mid.world m (c.args.ty.now ∷ []) c.args.term.now h.codomain) (sym c.tables.ensures) h.sealed.term in
    let is = c.in_ok-table.ensures.map h.codomain term in
    rw (c.in_ok-append.ensures.ok, c.in_ok-push.ensures.ok, c.new-tables.ensures)
    (map_defined so.world.site.category so c.args.under c.args.map c.args.ty.now c.args.term.now mid c.in_ok-table.table h (rw c.tables.ensures at is) c.requires.lawful)
