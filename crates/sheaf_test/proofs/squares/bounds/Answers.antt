use Rattle.finite_lists.proofs.Lists.{In_at}
use Rattle.sheaf_test.proofs.squares.bounds.Goals as goal

pub dom-requires : goal.dom-requires
dom-requires c = c.requires.arrows _ (In_at c.args.arrows.now c.loop-f.f-index 0 c.loop-f-test.true)
