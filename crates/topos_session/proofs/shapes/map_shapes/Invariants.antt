use Rattle.std.proofs.Common.{◌≡◌, map, take}
use Rattle.topos_model.specs.statements.Answers.{map_shape}
use Rattle.topos_session.specs.Declarations.{declared_between}
use Rattle.topos_session.proofs.shapes.map_shapes.Given as goal

abbrev pub invariant-loop-map : goal.invariant-loop-map
invariant-loop-map l = l.shapes ≡ map (λ m. map_shape (declared_between m)) (take l.map-index l.maps)
