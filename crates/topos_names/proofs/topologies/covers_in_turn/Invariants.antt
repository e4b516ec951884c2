use Rattle.std.proofs.Common.{◌≡◌, ◌+◌, [], map}
use Rattle.topos_text.specs.Resolving as spec
use Rattle.topos_text.specs.Views as view
use Rattle.topos_names.specs.Spaces.{space_of, limits}
use Rattle.topos_names.proofs.Turns.{turned}
use Rattle.topos_names.proofs.topologies.covers_in_turn.Given as goal

abbrev pub invariant-loop-tree : goal.invariant-loop-tree
invariant-loop-tree l = record {
  left : spec.in_turn limits (spec.with_cover limits (space_of l.space)) l.before [] (map view.cover_of l.trees) ≡ turned (spec.with_cover limits (space_of l.space)) view.cover_of l.before l.covers l.trees l.tree-index;
  count : l.count ≡ l.before + l.tree-index;
}
