use Rattle.std.proofs.Common.{sym, ◌∙◌, arith}
use Rattle.sheaf_test.proofs.NextAmalgamations.{next_some, next_none, none_left}
use Rattle.sheaf_test.proofs.gluing.next_amalgamation.Goals as goal

pub restricts_to-requires-clause-arrows : goal.restricts_to-requires-clause-arrows
restricts_to-requires-clause-arrows c = c.requires.arrows c.loop-y.y (omega (arith, c.size-y-end.ensures, c.loop-y-test.true))

pub returns-then-restricts_to-clause-list : goal.returns-then-restricts_to-clause-list
returns-then-restricts_to-clause-list c =
    c.loop-y.invariant
    ∙ next_some c.args.x.now c.args.c c.args.arrows.now c.args.family.now c.loop-y.y (omega (arith, c.size-y-end.ensures, c.loop-y-test.true)) (sym c.restricts_to.ensures ∙ c.if-restricts_to.true)

pub loop-y-preserved : goal.loop-y-preserved
loop-y-preserved c =
    c.loop-y.invariant
    ∙ next_none c.args.x.now c.args.c c.args.arrows.now c.args.family.now c.loop-y.y (omega (arith, c.size-y-end.ensures, c.loop-y-test.true)) (sym c.restricts_to.ensures ∙ c.if-restricts_to.false)

pub returns-clause-list : goal.returns-clause-list
returns-clause-list c =
    c.loop-y.invariant ∙ none_left c.args.x.now c.args.c c.args.arrows.now c.args.family.now c.loop-y.y (omega (arith, c.size-y-end.ensures, c.loop-y-test.false))
