use Rattle.std.proofs.Common.{◌≡◌, map}
use Rattle.topos_text.specs.Names.{for_each}
use Rattle.topos_text.specs.StatementNames as spec
use Rattle.topos_text.specs.Views as view
use Rattle.topos_names.proofs.Gathering.{gathered}
use Rattle.topos_names.proofs.derivation.steps_of.Given as goal

abbrev pub invariant-loop-tree : goal.invariant-loop-tree
invariant-loop-tree l = for_each (spec.step_of l.scope) (map view.step_of l.trees) ≡ gathered (spec.step_of l.scope) view.step_of l.steps l.trees l.tree-index
