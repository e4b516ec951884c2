use Rattle.std.proofs.Common.{◌∙◌}
use Rattle.std.proofs.lemmas.Result.{IfOk-weaker}
use Rattle.topos_model.specs.formulas.Forcing.{forces}
use Rattle.internal_interp.proofs.FormulaFacts.{bound_formula}
use Rattle.internal_interp.proofs.formulas.bound.Goals as goal

pub quantified-requires-clause-parts : goal.quantified-requires-clause-parts
quantified-requires-clause-parts c =
    let (w, maps, Γ, t, h) = c.requires.known in
    (w, Γ, c.args.ty.now, forces w t, bound_formula w maps c.args.interpreter.now Γ c.args.context.now _ c.tuples.ensures c.args.ty.now t _ _ h (c.as_slice.ensures ∙ c.in_ok-widths.ensures w maps h.binding.knows))

pub returns : goal.returns
returns c =
    IfOk-weaker c.quantified.result _ _
    (λ truths is w maps Γ t h.
    is w Γ c.args.ty.now (forces w t)
    (bound_formula w maps c.args.interpreter.now Γ c.args.context.now _ c.tuples.ensures c.args.ty.now t _ _ h (c.as_slice.ensures ∙ c.in_ok-widths.ensures w maps h.binding.knows)))
    c.quantified.ensures
