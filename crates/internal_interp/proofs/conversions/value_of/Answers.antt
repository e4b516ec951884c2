use Rattle.std.proofs.Common.{subst, sym}
use Rattle.topos_model.specs.formulas.Forcing.{value}
use Rattle.truth_tables.specs.Standing.{IsNumberTable}
use Rattle.internal_interp.specs.Known.{IsKnown, IsForced, IsInterpreted}
use Rattle.internal_interp.proofs.TermFacts.{has_omega, forced_parts}
use Rattle.internal_interp.proofs.conversions.value_of.Goals as goal

pub unreachable-requires : goal.unreachable-requires
unreachable-requires c =
    let (w, maps, Γ, U, t, known, h) = c.requires.known in
    let f : IsForced w Γ U t c.in-Formula.truths = subst (IsInterpreted w Γ U t) c.in-Formula.is h in
    has_omega w maps _ Γ _ t (subst (λ V. IsKnown w maps c.args.interpreter.now Γ V c.args.context.now t) f.formula known) c.in-None.is

pub truth_value_table-requires-clause-part : goal.truth_value_table-requires-clause-part
truth_value_table-requires-clause-part c =
    let (w, maps, Γ, U, t, known, h) = c.requires.known in
    let f : IsForced w Γ U t c.in-Formula.truths = subst (IsInterpreted w Γ U t) c.in-Formula.is h in
    (w, Γ, t, forced_parts w maps _ Γ _ t (subst (λ V. IsKnown w maps c.args.interpreter.now Γ V c.args.context.now t) f.formula known) c.in-Formula.truths f.stands c.in-Some.omega c.in-Some.is _ _ c.cat.ensures c.tuples.ensures)

pub returns-in_ok-numbers-in-Some : goal.returns-in_ok-numbers-in-Some
returns-in_ok-numbers-in-Some c = λ w maps Γ U t known h.
    let f : IsForced w Γ U t c.in-Formula.truths = subst (IsInterpreted w Γ U t) c.in-Formula.is h in
    record {
      type_is = sym f.formula;
      stands = subst (λ V. IsNumberTable w Γ V (value w t) c.in_ok-numbers-in-Some.numbers) (sym f.formula)
          (c.in_ok-numbers-in-Some.ensures.stands w Γ t (forced_parts w maps _ Γ _ t (subst (λ V. IsKnown w maps c.args.interpreter.now Γ V c.args.context.now t) f.formula known) c.in-Formula.truths f.stands c.in-Some.omega c.in-Some.is _ _ c.cat.ensures c.tuples.ensures));
    }
