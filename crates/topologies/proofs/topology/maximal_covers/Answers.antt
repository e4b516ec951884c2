use Rattle.topos_model.specs.categories.Category.{into}
use Rattle.topologies.proofs.KeptCovers.{kept-more}
use Rattle.topologies.proofs.topology.maximal_covers.Goals as goal

pub loop-c-preserved : goal.loop-c-preserved
loop-c-preserved c = kept-more (into c.args.cat.now) c.loop-c.row c.push.new.self c.into.result c.loop-c.c c.loop-c.invariant c.in_ok-push.ensures.ok c.into.ensures
