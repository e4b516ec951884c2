use Rattle.std.proofs.lemmas.Result.{IfOk-weaker}
use Rattle.topos_model.specs.formulas.Forcing.{forces}
use Rattle.internal_interp.proofs.FormulaFacts.{joined_formulas}
use Rattle.internal_interp.proofs.formulas.joined.Goals as goal

pub connect-requires-clause-parts : goal.connect-requires-clause-parts
connect-requires-clause-parts c =
    let (w, maps, Γ, t, u, h) = c.requires.known in
    (w, Γ, forces w t, forces w u, joined_formulas w maps c.args.interpreter.now Γ c.args.context.now _ c.tuples.ensures t u _ _ h)

pub returns : goal.returns
returns c =
    IfOk-weaker c.connect.result _ _
    (λ truths is w maps Γ t u h. is w Γ (forces w t) (forces w u) (joined_formulas w maps c.args.interpreter.now Γ c.args.context.now _ c.tuples.ensures t u _ _ h))
    c.connect.ensures
