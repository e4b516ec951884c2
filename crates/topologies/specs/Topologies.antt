-- Topologies as the code keeps them (III).
use Rattle.std.specs.Prelude.{◌≡◌, map}
use Rattle.std.specs.List.{range_with_len}
use Rattle.topos_model.specs.categories.Category.{Category}
use Rattle.topos_model.specs.topologies.Cover.{Site}
use Rattle.topos_model.specs.Laws.{IsTopology}
use Rattle.topos_model.specs.topologies.LeastCovers.{least}
use Rattle.fin_category.specs.ArrowSets.{arrows_in}
use Rattle.topologies.specs.declared.topology.Topology.{Topology}

-- the category with the topology
abbrev pub site_of : Category → Topology → Site
site_of k t = record { category = k; dense = t.dense; families = t.families }

-- the laws hold, and the least cover of each object is kept
pub record IsTopologyOn (k : Category) (t : Topology) : Type 0 where
  pub topology : IsTopology (site_of k t)
  pub least : map arrows_in t.least ≡ map (least (site_of k t)) (range_with_len 0 k.objects)
