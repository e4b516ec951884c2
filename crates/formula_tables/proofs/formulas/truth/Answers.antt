use Rattle.std.proofs.Common.{true}
use Rattle.std.proofs.lemmas.Result.{IfOk-weaker}
use Rattle.formula_tables.proofs.Forms.{truth_stands}
use Rattle.formula_tables.proofs.formulas.truth.Goals as goal

pub returns : goal.returns
returns c = IfOk-weaker c.table.result _ _ (λ truths is w Γ counted. truth_stands w Γ _ truths counted (is (λ c i. true) (λ c i x low inside p. p))) c.table.ensures
