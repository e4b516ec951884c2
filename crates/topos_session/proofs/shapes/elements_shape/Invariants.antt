use Rattle.std.proofs.Common.{◌≡◌, map, take}
use Rattle.topos_model.specs.statements.Answers.{with_numbers}
use Rattle.topos_session.proofs.shapes.elements_shape.Given as goal

abbrev pub invariant-loop-here : goal.invariant-loop-here
invariant-loop-here l = l.stages ≡ map with_numbers (take l.here-index l.values)
