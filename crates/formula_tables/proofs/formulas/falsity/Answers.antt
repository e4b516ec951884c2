use Rattle.std.proofs.Common.{length, ap, ◌∙◌, sym}
use Rattle.std.proofs.lemmas.Result.{IfOk-weaker}
use Rattle.formula_tables.proofs.AlongArrows.{sizes_long}
use Rattle.formula_tables.proofs.Forms.{falsity_stands}
use Rattle.formula_tables.proofs.formulas.falsity.Goals as goal

pub constant-requires-clause-values : goal.constant-requires-clause-values
constant-requires-clause-values c =
    let known = c.requires.known.2 in
    ap length c.as_slice.ensures ∙ known.stands.empty_objects ∙ sym (sizes_long _ _ _ _ _ _ known)

pub returns : goal.returns
returns c = IfOk-weaker c.constant.result _ _ (λ truths is w Γ known. falsity_stands w Γ _ _ _ _ known _ truths c.as_slice.ensures is) c.constant.ensures
