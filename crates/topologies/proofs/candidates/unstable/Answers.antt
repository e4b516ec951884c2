use Rattle.finite_lists.proofs.Lists.{In_at}
use Rattle.topologies.proofs.candidates.unstable.Goals as goal

pub unstable_along-requires-clause-sieve : goal.unstable_along-requires-clause-sieve
unstable_along-requires-clause-sieve c = (c.requires _ (In_at c.args.sieves.now c.loop-l.l-index _ c.loop-l-test.true)).0

pub unstable_along-requires-clause-object : goal.unstable_along-requires-clause-object
unstable_along-requires-clause-object c = (c.requires _ (In_at c.args.sieves.now c.loop-l.l-index _ c.loop-l-test.true)).1
