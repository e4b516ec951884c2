use Rattle.std.proofs.Common.{◌≡◌, map}
use Rattle.topos_text.specs.Names.{for_each}
use Rattle.topos_text.specs.SiteNames as spec
use Rattle.topos_text.specs.Views as view
use Rattle.topos_names.specs.Spaces.{space_of}
use Rattle.topos_names.proofs.Gathering.{gathered}
use Rattle.topos_names.proofs.cover.covers_of.Given as goal

abbrev pub invariant-loop-tree : goal.invariant-loop-tree
invariant-loop-tree l = for_each (spec.cover_of (space_of l.space)) (map view.cover_of l.trees) ≡ gathered (spec.cover_of (space_of l.space)) view.cover_of l.covers l.trees l.tree-index
