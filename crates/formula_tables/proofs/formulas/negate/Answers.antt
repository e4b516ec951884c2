use Rattle.std.proofs.lemmas.Result.{IfOk-weaker}
use Rattle.topos_model.specs.formulas.Forcing.{falsity_forced}
use Rattle.formula_tables.proofs.Forms.{not_row}
use Rattle.formula_tables.proofs.formulas.negate.Goals as goal

pub falsity-requires-clause-known : goal.falsity-requires-clause-known
falsity-requires-clause-known c = let (w, Γ, φ, h) = c.requires.parts in (w, Γ, h.known)

pub connect-requires-clause-parts : goal.connect-requires-clause-parts
connect-requires-clause-parts c =
    let (w, Γ, φ, h) = c.requires.parts in (
      w,
      Γ,
      φ,
      falsity_forced w,
      record { known = h.known; left_stands = h.stands; right_stands = c.in_ok-falsity.ensures w Γ h.known },
    )

pub returns : goal.returns
returns c =
    IfOk-weaker c.connect.result _ _
    (λ truths is w Γ φ h.
    not_row w Γ truths φ
    (is w Γ φ (falsity_forced w)
    (record { known = h.known; left_stands = h.stands; right_stands = c.in_ok-falsity.ensures w Γ h.known })))
    c.connect.ensures
