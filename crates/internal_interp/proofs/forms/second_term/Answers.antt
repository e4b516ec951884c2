use Rattle.internal_interp.proofs.FormFacts.{second_known}
use Rattle.internal_interp.proofs.forms.second_term.Goals as goal

pub second-requires-clause-known : goal.second-requires-clause-known
second-requires-clause-known c =
    let (w, maps, Γ, U, t, k, l) = c.requires.known in
    let (S, p, h) = second_known w maps c.args.interpreter.now Γ c.args.context.now U t c.args.of k l in (w, maps, Γ, S, U, t, p, h)

pub returns : goal.returns
returns c = λ t l w maps Γ U k.
    let (S, p, h) = second_known w maps c.args.interpreter.now Γ c.args.context.now U t c.args.of k l in c.in_ok-second.ensures w maps Γ S U t p h
