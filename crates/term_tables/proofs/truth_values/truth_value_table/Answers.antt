use Rattle.std.proofs.Common.{sym, subst}
use Rattle.std.proofs.lemmas.Result.{IfOk-weaker}
use Rattle.topos_model.specs.declared.ty.Ty.{Omega as OmegaType}
use Rattle.topos_model.specs.formulas.Forcing.{value}
use Rattle.truth_tables.proofs.Standing.{number_table, object_in, tuple_in}
use Rattle.term_tables.specs.TruthValues.{IsReadAlong}
use Rattle.term_tables.proofs.TruthValueParts.{read_along, value_number, value_number_stands, found_number}
use Rattle.term_tables.proofs.truth_values.truth_value_table.Goals as goal

pub table-requires-clause-entries : goal.table-requires-clause-entries
table-requires-clause-entries c = λ o i low' inside'.
    let (w, Γ, φ, h) = c.requires.part in
    let low = object_in w Γ c.args.sizes.now h.known.counted o low' in
    let inside = tuple_in w Γ c.args.sizes.now h.known.counted o i low' inside' in
    subst (λ s. IsReadAlong c.args.cat.now c.args.omega.now c.args.store.now c.args.context s c.args.truths.now o i) (sym c.as_slice-sources.ensures)
    (read_along w Γ φ c.args.cat.now c.args.omega.now c.args.stages.now c.args.store.now c.args.context c.args.sizes.now c.args.truths.now h o i low inside)

pub returns : goal.returns
returns c = record {
  stands = IfOk-weaker c.table.result _ _ (λ rows made w Γ φ h.
      let f = value_number w Γ φ c.args.cat.now c.args.omega.now c.args.stages.now c.args.store.now c.args.context c.args.sizes.now c.args.truths.now h in
      number_table w Γ c.args.sizes.now h.known.counted OmegaType (value w φ) f rows (made f (λ o i x low' inside' post.
      let low = object_in w Γ c.args.sizes.now h.known.counted o low' in
      let inside = tuple_in w Γ c.args.sizes.now h.known.counted o i low' inside' in
      found_number w Γ φ c.args.cat.now c.args.omega.now c.args.stages.now c.args.store.now c.args.context c.args.sizes.now c.args.truths.now h o i x low inside c.as_slice-sources.result.now c.as_slice-sources.ensures post))
      (value_number_stands w Γ φ c.args.cat.now c.args.omega.now c.args.stages.now c.args.store.now c.args.context c.args.sizes.now c.args.truths.now h)) c.table.ensures;
}
