use Rattle.internal_interp.proofs.FormFacts.{negated_known, negated_stands}
use Rattle.internal_interp.proofs.forms.negation.Goals as goal

pub negated-requires-clause-known : goal.negated-requires-clause-known
negated-requires-clause-known c =
    let (w, maps, Γ, U, t, k, l) = c.requires.known in
    let (h, e) = negated_known w maps c.args.interpreter.now Γ c.args.context.now U t c.args.truths k l in (w, maps, Γ, t, h)

pub returns : goal.returns
returns c = λ t l w maps Γ U k.
    let (h, e) = negated_known w maps c.args.interpreter.now Γ c.args.context.now U t c.args.truths k l in negated_stands w maps c.args.interpreter.now Γ c.args.context.now U t _ e (c.in_ok-negated.ensures w maps Γ t h)
