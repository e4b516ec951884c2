use Rattle.std.proofs.lemmas.Result.{IfOk-weaker}
use Rattle.topos_model.specs.formulas.Forcing.{forces}
use Rattle.internal_interp.proofs.FormulaFacts.{equivalent_formulas}
use Rattle.internal_interp.proofs.EquationFacts.{equation_stands}
use Rattle.internal_interp.proofs.formulas.equivalence.Goals as goal

pub equivalent-requires-clause-parts : goal.equivalent-requires-clause-parts
equivalent-requires-clause-parts c =
    let (w, maps, Γ, t, u, h) = c.requires.known in
    (w, Γ, forces w t, forces w u, equivalent_formulas w maps c.args.interpreter.now Γ c.args.context.now _ c.tuples.ensures t u _ _ h)

pub returns : goal.returns
returns c =
    IfOk-weaker c.equivalent.result _ _
    (λ truths is w maps Γ t u h.
    equation_stands w maps c.args.interpreter.now Γ c.args.context.now t u _ _ truths h
    (is w Γ (forces w t) (forces w u) (equivalent_formulas w maps c.args.interpreter.now Γ c.args.context.now _ c.tuples.ensures t u _ _ h)))
    c.equivalent.ensures
