use Rattle.std.proofs.Common.{◌≡◌, ℕ}
use Rattle.finite_lists.specs.Members.{In}
use Rattle.topos_model.specs.categories.Category.{dom}
use Rattle.topos_model.specs.Laws.{IsInto}
use Rattle.topos_model.specs.topologies.LeastCovers.{least}
use Rattle.fin_category.specs.ArrowSets.{left_in}
use Rattle.sieve_table.specs.Sieves.{sieve_arrows}
use Rattle.topologies.specs.Closures.{goes_within}
use Rattle.topologies.specs.Topologies.{site_of}
use Rattle.topologies.proofs.topology.Topology.goes_into.Given as goal

-- what is left gives the whole
abbrev pub invariant-loop-g : goal.invariant-loop-g
invariant-loop-g l =
    (goal.iterator-loop-g).can_next l.g-iterator × (goal.iterator-loop-g).is_finite l.g-iterator
    × (goes_within l.cat (sieve_arrows l.s) l.f (left_in l.g-iterator) ≡ goes_within l.cat (sieve_arrows l.s) l.f (least (site_of l.cat l.self) (dom l.cat l.f)))
    × ((g : ℕ) → In (left_in l.g-iterator) g → IsInto l.cat (dom l.cat l.f) g)
