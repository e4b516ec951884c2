use Rattle.internal_interp.proofs.FormFacts.{first_known}
use Rattle.internal_interp.proofs.forms.first_term.Goals as goal

pub first-requires-clause-known : goal.first-requires-clause-known
first-requires-clause-known c =
    let (w, maps, Γ, U, t, k, l) = c.requires.known in
    let (T, p, h) = first_known w maps c.args.interpreter.now Γ c.args.context.now U t c.args.of k l in (w, maps, Γ, U, T, t, p, h)

pub returns : goal.returns
returns c = λ t l w maps Γ U k.
    let (T, p, h) = first_known w maps c.args.interpreter.now Γ c.args.context.now U t c.args.of k l in c.in_ok-first.ensures w maps Γ U T t p h
