use Rattle.std.proofs.lemmas.Result.{IfOk-weaker}
use Rattle.internal_interp.proofs.TermFacts.{held_type}
use Rattle.internal_interp.proofs.ReadingFacts.{member_parts}
use Rattle.internal_interp.proofs.readings.member.Goals as goal

pub place_of-id-requires : goal.place_of-id-requires
place_of-id-requires c = let (w, maps, Γ, T, t, u, h) = c.requires.known in record { held = held_type w maps c.args.interpreter.now Γ c.args.context.now _ u c.args.set h.known h.set_stands }

pub membership_table-requires-clause-parts : goal.membership_table-requires-clause-parts
membership_table-requires-clause-parts c =
    let (w, maps, Γ, T, t, u, h) = c.requires.known in
    (w, Γ, T, t, u, member_parts w maps c.args.interpreter.now Γ c.args.context.now _ c.tuples.ensures T t u c.args.element c.args.set h _ c.place_of-id.ensures.place)

pub returns : goal.returns
returns c =
    IfOk-weaker c.membership_table.result _ _
    (λ truths is w maps Γ T t u h.
    is w Γ T t u (member_parts w maps c.args.interpreter.now Γ c.args.context.now _ c.tuples.ensures T t u c.args.element c.args.set h _ c.place_of-id.ensures.place))
    c.membership_table.ensures.stands
