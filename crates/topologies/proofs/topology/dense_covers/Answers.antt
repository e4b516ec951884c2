use Rattle.topologies.specs.DenseCovers.{dense_least}
use Rattle.topologies.proofs.KeptCovers.{kept-more}
use Rattle.topologies.proofs.topology.dense_covers.Goals as goal

pub loop-c-preserved : goal.loop-c-preserved
loop-c-preserved c = kept-more (dense_least c.args.cat.now) c.loop-c.row c.push.new.self c.dense_cover.result c.loop-c.c c.loop-c.invariant c.in_ok-push.ensures.ok c.dense_cover.ensures
