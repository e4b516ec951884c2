use Rattle.topos_model.specs.declared.ty.Ty.{Two}
use Rattle.topos_model.specs.declared.term.Term.{Pair}
use Rattle.internal_interp.proofs.FormFacts.{pair_known, retyped}
use Rattle.internal_interp.proofs.forms.pair_term.Goals as goal

pub pair-requires-clause-known : goal.pair-requires-clause-known
pair-requires-clause-known c =
    let (w, maps, Γ, U, t, u, k, l, r) = c.requires.known in
    let (S, T, h, e) = pair_known w maps c.args.interpreter.now Γ c.args.context.now U t u c.args.left c.args.right k l r in (w, maps, Γ, S, T, t, u, h)

pub returns : goal.returns
returns c = λ t u l r w maps Γ U k.
    let (S, T, h, e) = pair_known w maps c.args.interpreter.now Γ c.args.context.now U t u c.args.left c.args.right k l r in retyped w maps c.args.interpreter.now Γ c.args.context.now U (Two S T) (Pair t u) c.in_ok-pair.field-0 e (c.in_ok-pair.ensures w maps Γ S T t u h)
