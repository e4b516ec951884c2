use Rattle.finite_lists.proofs.Lists.{In_at}
use Rattle.topologies.proofs.candidates.narrow.Goals as goal

pub narrow_with-requires : goal.narrow_with-requires
narrow_with-requires c = (c.requires _ (In_at c.args.sieves.now c.loop-l.l-index _ c.loop-l-test.true)).1
