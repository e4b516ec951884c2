use Rattle.std.proofs.Common.{◌≡◌, map, take}
use Rattle.topos_model.specs.statements.Answers.{numbers_with}
use Rattle.topos_session.proofs.shapes.numbers_shape.Given as goal

abbrev pub invariant-loop-here : goal.invariant-loop-here
invariant-loop-here l = l.stages ≡ map numbers_with (take l.here-index l.values)
