use Rattle.std.proofs.Common.{◌≡◌, map, take}
use Rattle.topos_model.specs.statements.Answers.{element_pairs}
use Rattle.topos_session.proofs.shapes.map_shape.Given as goal

abbrev pub invariant-loop-component : goal.invariant-loop-component
invariant-loop-component l = l.stages ≡ map element_pairs (take l.component-index l.components)
