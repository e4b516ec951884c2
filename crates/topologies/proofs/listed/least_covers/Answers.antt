use Rattle.topos_model.specs.categories.Category.{into}
use Rattle.topologies.specs.Candidates.{common_arrows}
use Rattle.topologies.proofs.KeptCovers.{kept-more}
use Rattle.topologies.proofs.listed.least_covers.Goals as goal

pub loop-c-preserved : goal.loop-c-preserved
loop-c-preserved c =
    kept-more (λ d. common_arrows d (into c.args.cat.now d) c.args.sieves.now) c.loop-c.row c.push.new.self c.least_listed.result c.loop-c.c c.loop-c.invariant c.in_ok-push.ensures.ok c.least_listed.ensures
