use Rattle.std.proofs.Common.{ℕ}
use Rattle.std.proofs.lemmas.Result.{IfOk-weaker}
use Rattle.topos_model.specs.categories.Category.{has}
use Rattle.topos_model.specs.formulas.Forcing.{forces}
use Rattle.omega_object.specs.TruthValues.{sieve_at}
use Rattle.truth_tables.specs.Tables.{number}
use Rattle.truth_tables.proofs.Standing.{truth_table}
use Rattle.term_tables.proofs.TruthValueParts.{held_truths, truth_values_known}
use Rattle.term_tables.proofs.truth_values.formula_table.Goals as goal

pub table-requires-clause-entries : goal.table-requires-clause-entries
table-requires-clause-entries c =
    let (w, Γ, t, h) = c.requires.part in
    truth_values_known w Γ t c.args.omega.now c.args.sizes.now c.args.numbers.now h

pub returns : goal.returns
returns c = record {
  stands = IfOk-weaker c.table.result _ _ (λ rows made w Γ t h.
      let f = λ (o i : ℕ). has o (sieve_at w.site o (number c.args.numbers.now o i)) in
      truth_table w Γ c.args.sizes.now h.counted (forces w t) f rows (made f (λ o i x low inside post. post w.site h.truth_values))
      (held_truths w Γ t c.args.omega.now c.args.sizes.now c.args.numbers.now h)) c.table.ensures;
}
