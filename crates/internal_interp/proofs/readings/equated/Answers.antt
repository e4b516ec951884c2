use Rattle.std.proofs.lemmas.Result.{IfOk-weaker}
use Rattle.internal_interp.proofs.ReadingFacts.{equal_parts}
use Rattle.internal_interp.proofs.readings.equated.Goals as goal

pub equal_table-requires-clause-parts : goal.equal_table-requires-clause-parts
equal_table-requires-clause-parts c =
    let (w, maps, Γ, T, t, u, h) = c.requires.known in
    (w, Γ, T, t, u, equal_parts w maps c.args.interpreter.now Γ c.args.context.now _ c.tuples.ensures T t u c.args.left c.args.right h)

pub returns : goal.returns
returns c =
    IfOk-weaker c.equal_table.result _ _
    (λ truths is w maps Γ T t u h. is w Γ T t u (equal_parts w maps c.args.interpreter.now Γ c.args.context.now _ c.tuples.ensures T t u c.args.left c.args.right h))
    c.equal_table.ensures.stands
