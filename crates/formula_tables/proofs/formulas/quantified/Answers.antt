use Rattle.std.proofs.lemmas.Result.{IfOk-weaker}
use Rattle.formula_tables.specs.Formulas.{quantified_at}
use Rattle.formula_tables.proofs.Blocks.{widths_long, body_long, body_rows, quantified_stands}
use Rattle.formula_tables.proofs.Forms.{exists_row, forall_row, unique_row}
use Rattle.formula_tables.proofs.formulas.quantified.Goals as goal

pub quantify-requires-clause-widths : goal.quantify-requires-clause-widths
quantify-requires-clause-widths c = widths_long _ _ _ _ _ _ _ _ _ _ c.requires.parts.4

pub quantify-requires-clause-body : goal.quantify-requires-clause-body
quantify-requires-clause-body c = body_long _ _ _ _ _ _ _ _ _ _ c.requires.parts.4

pub quantify-requires-clause-tuples : goal.quantify-requires-clause-tuples
quantify-requires-clause-tuples c = body_rows _ _ _ _ _ _ _ _ _ _ c.requires.parts.4

pub locally-requires-clause-parts : goal.locally-requires-clause-parts
locally-requires-clause-parts c = let (w, Γ, T, φ, h) = c.requires.parts in (w, Γ, quantified_at w c.args.quantifier T φ, record { known = h.known; stands = quantified_stands w Γ T φ _ _ _ _ _ _ h c.args.quantifier _ c.in_ok-counted.ensures })

pub returns-in-Some : goal.returns-in-Some
returns-in-Some c =
    IfOk-weaker c.locally.result _ _
    (λ truths is w Γ T φ h. exists_row w Γ truths _ T φ c.in-Some.is (is w Γ (quantified_at w c.args.quantifier T φ) (record { known = h.known; stands = quantified_stands w Γ T φ _ _ _ _ _ _ h c.args.quantifier _ c.in_ok-counted.ensures })))
    c.locally.ensures

pub always-requires-clause-parts : goal.always-requires-clause-parts
always-requires-clause-parts c = let (w, Γ, T, φ, h) = c.requires.parts in (w, Γ, quantified_at w c.args.quantifier T φ, record { known = h.known; stands = quantified_stands w Γ T φ _ _ _ _ _ _ h c.args.quantifier _ c.in_ok-counted.ensures })

pub returns-in-Every : goal.returns-in-Every
returns-in-Every c =
    IfOk-weaker c.always.result _ _
    (λ truths is w Γ T φ h. forall_row w Γ truths _ T φ c.in-Every.is (is w Γ (quantified_at w c.args.quantifier T φ) (record { known = h.known; stands = quantified_stands w Γ T φ _ _ _ _ _ _ h c.args.quantifier _ c.in_ok-counted.ensures })))
    c.always.ensures

pub always-requires-in-One-clause-parts : goal.always-requires-in-One-clause-parts
always-requires-in-One-clause-parts c = let (w, Γ, T, φ, h) = c.requires.parts in (w, Γ, quantified_at w c.args.quantifier T φ, record { known = h.known; stands = quantified_stands w Γ T φ _ _ _ _ _ _ h c.args.quantifier _ c.in_ok-counted.ensures })

pub returns : goal.returns
returns c =
    IfOk-weaker c.always-in-One.result _ _
    (λ truths is w Γ T φ h. unique_row w Γ truths _ T φ c.in-One.is (is w Γ (quantified_at w c.args.quantifier T φ) (record { known = h.known; stands = quantified_stands w Γ T φ _ _ _ _ _ _ h c.args.quantifier _ c.in_ok-counted.ensures })))
    c.always-in-One.ensures
