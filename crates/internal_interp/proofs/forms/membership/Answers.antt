use Rattle.internal_interp.proofs.FormFacts.{member_known}
use Rattle.internal_interp.proofs.forms.membership.Goals as goal

pub member-requires-clause-known : goal.member-requires-clause-known
member-requires-clause-known c =
    let (w, maps, Γ, U, t, u, k, l, r) = c.requires.known in
    let (T, h, e) = member_known w maps c.args.interpreter.now Γ c.args.context.now U t u c.args.element c.args.set k l r in (w, maps, Γ, T, t, u, h)

pub returns : goal.returns
returns c = λ t u l r w maps Γ U k.
    let (T, h, e) = member_known w maps c.args.interpreter.now Γ c.args.context.now U t u c.args.element c.args.set k l r in record { formula = e; stands = c.in_ok-member.ensures w maps Γ T t u h }
