use Rattle.std.proofs.lemmas.Result.{IfOk-weaker}
use Rattle.formula_tables.specs.Formulas.{agreeing_at}
use Rattle.formula_tables.proofs.AlongArrows.{over_sizes}
use Rattle.formula_tables.proofs.Forms.{agreeing_stands, equivalent_row}
use Rattle.formula_tables.proofs.formulas.equivalent.Goals as goal

pub agreeing-requires-clause-left : goal.agreeing-requires-clause-left
agreeing-requires-clause-left c = let h = c.requires.parts.4 in over_sizes _ _ _ _ _ _ h.known _ _ h.left_stands

pub agreeing-requires-clause-right : goal.agreeing-requires-clause-right
agreeing-requires-clause-right c = let h = c.requires.parts.4 in over_sizes _ _ _ _ _ _ h.known _ _ h.right_stands

pub always-requires-clause-parts : goal.always-requires-clause-parts
always-requires-clause-parts c =
    let (w, Γ, φ, ψ, h) = c.requires.parts in (
      w,
      Γ,
      agreeing_at φ ψ,
      record { known = h.known; stands = agreeing_stands w Γ _ _ _ _ φ ψ _ _ h _ c.in_ok-here.ensures },
    )

pub returns : goal.returns
returns c =
    IfOk-weaker c.always.result _ _
    (λ truths is w Γ φ ψ h.
    equivalent_row w Γ truths φ ψ
    (is w Γ (agreeing_at φ ψ)
    (record { known = h.known; stands = agreeing_stands w Γ _ _ _ _ φ ψ _ _ h _ c.in_ok-here.ensures })))
    c.always.ensures
