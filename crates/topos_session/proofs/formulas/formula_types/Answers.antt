use Rattle.std.proofs.Common.{◌↔◌, Ok, reverse, sym, ap, subst, ◌∙◌}
use Rattle.std.specs.List.{flat_map}
use Rattle.finite_lists.specs.Members.{In}
use Rattle.topos_model.specs.formulas.Typing.{typed}
use Rattle.topos_model.specs.statements.Needs.{parts, term_needs}
use Rattle.term_typing.specs.Inferring.{IsFaultOf}
use Rattle.std.proofs.lemmas.Result.{err_from_is_err_and}
use Rattle.topos_model.specs.declared.ty.Ty.{Ty, Omega}
use Rattle.topos_model.specs.types.SameTypeLaws.{same_types_are_equal}
use Rattle.topos_session.proofs.FormulaAnswers.{typing_stops, no_formula}
use Rattle.topos_session.proofs.formulas.formula_types.Goals as goal

pub returns-in_err-found-clause-stop : goal.returns-in_err-found-clause-stop
returns-in_err-found-clause-stop c =
    let p = err_from_is_err_and c.from_residual.result c.from_residual.ensures.1 in
    rw (p.1, p.2) (typing_stops c.args.maps.now c.args.ctx.now c.args.phi.now c.in_err-found.field-0.0 (subst (λ ends. IsFaultOf (typed ends (reverse c.args.ctx.now.types) c.args.phi.now) c.in_err-found.field-0.0) c.ends.ensures c.in_err-found.ensures.typing))

pub returns-then-eq-clause-types : goal.returns-then-eq-clause-types
returns-then-eq-clause-types c = record {
  formula = ap (λ ends. typed ends (reverse c.args.ctx.now.types) c.args.phi.now) (sym c.ends.ensures) ∙ c.in_ok-found.ensures.typing ∙ ap Ok (sym (same_types_are_equal Omega c.in_ok-found.found.ty (sym c.eq.ensures ∙ c.if-eq.true)));
  counted = subst (λ ends. (T : Ty) → In (flat_map parts c.in_ok-found.found.types) T ↔ In (term_needs ends (reverse c.args.ctx.now.types) c.args.phi.now) T) c.ends.ensures c.in_ok-found.ensures.types;
}

pub returns-clause-stop : goal.returns-clause-stop
returns-clause-stop c = no_formula c.args.maps.now c.args.ctx.now c.args.phi.now c.in_ok-found.found.ty (ap (λ ends. typed ends (reverse c.args.ctx.now.types) c.args.phi.now) (sym c.ends.ensures) ∙ c.in_ok-found.ensures.typing) (sym c.eq.ensures ∙ c.if-eq.false)
