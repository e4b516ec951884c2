use Rattle.std.proofs.Common.{◌∙◌}
use Rattle.internal_interp.proofs.FormFacts.{truth_stands}
use Rattle.internal_interp.proofs.constants.truth_term.Goals as goal

pub returns : goal.returns
returns c = λ w maps Γ U k. truth_stands w maps c.args.interpreter.now Γ c.args.context.now U _ k.typing (c.in_ok-truth.ensures w Γ (c.tuples.ensures ∙ k.scope.known.counted))
