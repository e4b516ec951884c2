use Rattle.internal_interp.proofs.FormFacts.{applied_known}
use Rattle.internal_interp.proofs.forms.applied_term.Goals as goal

pub applied-requires-clause-known : goal.applied-requires-clause-known
applied-requires-clause-known c =
    let (w, maps, Γ, U, t, u, k, l, r) = c.requires.known in
    let (S, h) = applied_known w maps c.args.interpreter.now Γ c.args.context.now U t u c.args.function c.args.argument k l r in (w, maps, Γ, S, U, t, u, h)

pub returns : goal.returns
returns c = λ t u l r w maps Γ U k.
    let (S, h) = applied_known w maps c.args.interpreter.now Γ c.args.context.now U t u c.args.function c.args.argument k l r in c.in_ok-applied.ensures w maps Γ S U t u h
