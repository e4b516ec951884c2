use Rattle.std.proofs.lemmas.Result.{IfOk-weaker}
use Rattle.formula_tables.specs.Formulas.{connected_at}
use Rattle.formula_tables.proofs.AlongArrows.{over_sizes}
use Rattle.formula_tables.proofs.Forms.{connected_stands, and_row, or_row, implies_row}
use Rattle.formula_tables.proofs.formulas.connect.Goals as goal

pub combine-requires-clause-left : goal.combine-requires-clause-left
combine-requires-clause-left c = let h = c.requires.parts.4 in over_sizes _ _ _ _ _ _ h.known _ _ h.left_stands

pub combine-requires-clause-right : goal.combine-requires-clause-right
combine-requires-clause-right c = let h = c.requires.parts.4 in over_sizes _ _ _ _ _ _ h.known _ _ h.right_stands

pub locally-requires-clause-parts : goal.locally-requires-clause-parts
locally-requires-clause-parts c =
    let (w, Γ, φ, ψ, h) = c.requires.parts in (
      w,
      Γ,
      connected_at c.args.connective φ ψ,
      record { known = h.known; stands = connected_stands w Γ _ _ _ _ φ ψ _ _ h c.args.connective _ c.in_ok-both.ensures },
    )

pub always-requires-clause-parts : goal.always-requires-clause-parts
always-requires-clause-parts c =
    let (w, Γ, φ, ψ, h) = c.requires.parts in (
      w,
      Γ,
      connected_at c.args.connective φ ψ,
      record { known = h.known; stands = connected_stands w Γ _ _ _ _ φ ψ _ _ h c.args.connective _ c.in_ok-both.ensures },
    )

pub returns-in-And : goal.returns-in-And
returns-in-And c = λ w Γ φ ψ h. and_row w Γ _ _ φ ψ c.in-And.is (connected_stands w Γ _ _ _ _ φ ψ _ _ h c.args.connective _ c.in_ok-both.ensures)

pub returns-in-Or : goal.returns-in-Or
returns-in-Or c =
    IfOk-weaker c.locally.result _ _
    (λ truths is w Γ φ ψ h.
    or_row w Γ truths _ φ ψ c.in-Or.is
    (is w Γ (connected_at c.args.connective φ ψ)
    (record { known = h.known; stands = connected_stands w Γ _ _ _ _ φ ψ _ _ h c.args.connective _ c.in_ok-both.ensures })))
    c.locally.ensures

pub returns-in-Implies : goal.returns-in-Implies
returns-in-Implies c =
    IfOk-weaker c.always.result _ _
    (λ truths is w Γ φ ψ h.
    implies_row w Γ truths _ φ ψ c.in-Implies.is
    (is w Γ (connected_at c.args.connective φ ψ)
    (record { known = h.known; stands = connected_stands w Γ _ _ _ _ φ ψ _ _ h c.args.connective _ c.in_ok-both.ensures })))
    c.always.ensures
