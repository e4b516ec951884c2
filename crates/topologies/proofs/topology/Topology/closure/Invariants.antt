use Rattle.std.proofs.Common.{◌≡◌, drop, filter, []}
use Rattle.topos_model.specs.categories.Category.{dom}
use Rattle.topos_model.specs.topologies.LeastCovers.{least}
use Rattle.fin_category.specs.Masks.{all_added}
use Rattle.fin_category.specs.ArrowSets.{arrows_in}
use Rattle.sieve_table.specs.Sieves.{sieve_arrows}
use Rattle.topologies.specs.Closures.{goes_within}
use Rattle.topologies.specs.Topologies.{site_of}
use Rattle.topologies.proofs.topology.Topology.closure.Given as goal

-- what is left gives the whole
abbrev pub invariant-loop-f : goal.invariant-loop-f
invariant-loop-f l =
    all_added (arrows_in l.arrows) (filter (λ f. goes_within l.cat (sieve_arrows l.s) f (least (site_of l.cat l.self) (dom l.cat f))) (drop l.f-index l.f-items))
    ≡ all_added [] (filter (λ f. goes_within l.cat (sieve_arrows l.s) f (least (site_of l.cat l.self) (dom l.cat f))) l.f-items)
