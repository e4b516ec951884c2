use Rattle.std.proofs.Common.{sym, ◌∙◌, arith}
use Rattle.finite_lists.proofs.Lists.{In_at}
use Rattle.sheaf_test.proofs.NextAmalgamations.{differs, restricts}
use Rattle.sheaf_test.proofs.gluing.restricts_to.Goals as goal

pub restrict-requires-clause-arrow : goal.restrict-requires-clause-arrow
restrict-requires-clause-arrow c = (c.requires.arrows _ (In_at c.args.arrows.now c.loop-i.i 0 c.loop-i-test.true)).0

pub restrict-requires-clause-element : goal.restrict-requires-clause-element
restrict-requires-clause-element c = (c.requires.arrows _ (In_at c.args.arrows.now c.loop-i.i 0 c.loop-i-test.true)).1

pub returns-then-restrict-family : goal.returns-then-restrict-family
returns-then-restrict-family c =
    sym (differs c.args.x.now c.args.arrows.now c.args.family.now c.requires.rises c.requires.family c.args.element c.loop-i.i c.loop-i-test.true (λ e. c.if-restrict-family.true (c.restrict.ensures ∙ e)))

pub returns : goal.returns
returns c =
    sym (restricts c.args.x.now c.args.arrows.now c.args.family.now c.requires.rises c.requires.family c.args.element (λ i low. c.loop-i.invariant i (omega (arith, low, c.loop-i-test.false))))
