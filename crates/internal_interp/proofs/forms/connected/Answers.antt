use Rattle.internal_interp.proofs.FormFacts.{connected_known, connected_stands}
use Rattle.internal_interp.proofs.forms.connected.Goals as goal

pub joined-requires-clause-known : goal.joined-requires-clause-known
joined-requires-clause-known c =
    let (w, maps, Γ, U, t, u, k, l, r) = c.requires.known in
    let (h, e) = connected_known w maps c.args.interpreter.now Γ c.args.context.now U c.args.connective t u c.args.left c.args.right k l r in (w, maps, Γ, t, u, h)

pub returns : goal.returns
returns c = λ t u l r w maps Γ U k.
    let (h, e) = connected_known w maps c.args.interpreter.now Γ c.args.context.now U c.args.connective t u c.args.left c.args.right k l r in connected_stands w maps c.args.interpreter.now Γ c.args.context.now U c.args.connective t u _ e (c.in_ok-joined.ensures w maps Γ t u h)
