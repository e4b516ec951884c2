use Rattle.std.proofs.Common.{◌≡◌, ◌+◌, [], ◌∷◌, map, None}
use Rattle.topos_text.specs.Resolving as spec
use Rattle.topos_text.specs.Views as view
use Rattle.topos_names.specs.Spaces.{space_of, limits}
use Rattle.topos_names.proofs.Turns.{turned}
use Rattle.topos_names.proofs.topologies.topologies_of.Given as goal

abbrev pub invariant-loop-tree : goal.invariant-loop-tree
invariant-loop-tree l = record {
  left : spec.in_turn limits (spec.with_topology limits (space_of l.space)) l.before ([], spec.listed_declared None [] ∷ []) (map view.topology_of l.trees) ≡ turned (spec.with_topology limits (space_of l.space)) view.topology_of l.before (l.names, l.tops) l.trees l.tree-index;
  count : l.count ≡ l.before + l.tree-index;
}
