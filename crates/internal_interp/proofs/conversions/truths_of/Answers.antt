use Rattle.std.proofs.Common.{subst}
use Rattle.std.proofs.lemmas.Result.{IfOk-weaker}
use Rattle.topos_model.specs.declared.ty.Ty.{Omega}
use Rattle.internal_interp.specs.Known.{IsInterpreted}
use Rattle.internal_interp.proofs.TermFacts.{has_omega, truth_values}
use Rattle.internal_interp.proofs.conversions.truths_of.Goals as goal

pub unreachable-requires : goal.unreachable-requires
unreachable-requires c = let (w, maps, Γ, t, known, h) = c.requires.known in has_omega w maps _ Γ _ t known c.in-None.is

pub formula_table-requires-clause-part : goal.formula_table-requires-clause-part
formula_table-requires-clause-part c =
    let (w, maps, Γ, t, known, h) = c.requires.known in
    (w, Γ, t, truth_values w maps _ Γ _ t known c.in-Value.value (subst (IsInterpreted w Γ Omega t) c.in-Value.is h) c.in-Some.omega c.in-Some.is _ c.tuples.ensures)

pub returns-in-Some : goal.returns-in-Some
returns-in-Some c =
    IfOk-weaker c.formula_table.result _ _
    (λ truths is w maps Γ t known h.
    is w Γ t (truth_values w maps _ Γ _ t known c.in-Value.value (subst (IsInterpreted w Γ Omega t) c.in-Value.is h) c.in-Some.omega c.in-Some.is _ c.tuples.ensures))
    c.formula_table.ensures.stands
