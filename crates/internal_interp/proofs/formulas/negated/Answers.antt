use Rattle.std.proofs.lemmas.Result.{IfOk-weaker}
use Rattle.topos_model.specs.formulas.Forcing.{forces}
use Rattle.internal_interp.proofs.FormulaFacts.{negated_formula}
use Rattle.internal_interp.proofs.formulas.negated.Goals as goal

pub negate-requires-clause-parts : goal.negate-requires-clause-parts
negate-requires-clause-parts c =
    let (w, maps, Γ, t, h) = c.requires.known in
    (w, Γ, forces w t, negated_formula w maps c.args.interpreter.now Γ c.args.context.now _ c.tuples.ensures t _ h)

pub returns : goal.returns
returns c =
    IfOk-weaker c.negate.result _ _
    (λ truths is w maps Γ t h. is w Γ (forces w t) (negated_formula w maps c.args.interpreter.now Γ c.args.context.now _ c.tuples.ensures t _ h))
    c.negate.ensures
