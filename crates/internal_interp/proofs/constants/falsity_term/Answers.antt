use Rattle.std.proofs.Common.{sym, subst}
use Rattle.formula_tables.specs.Formulas.{IsContext}
use Rattle.internal_interp.proofs.FormFacts.{falsity_stands}
use Rattle.internal_interp.proofs.constants.falsity_term.Goals as goal

pub returns : goal.returns
returns c = λ w maps Γ U k.
    falsity_stands w maps c.args.interpreter.now Γ c.args.context.now U _ k.typing (c.in_ok-truths.ensures w Γ (subst (IsContext w Γ c.args.interpreter.now.stages.now c.args.interpreter.now.store.now c.args.context.now.place) (sym c.tuples.ensures) k.scope.known))
