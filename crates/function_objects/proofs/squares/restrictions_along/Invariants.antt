use Rattle.std.proofs.Common.{◌≡◌, map}
use Rattle.std.specs.List.{range_with_len}
use Rattle.sealed_types.specs.Sealed.{restrictions_in}
use Rattle.function_objects.proofs.squares.restrictions_along.Given as goal

abbrev pub invariant-loop-y : goal.invariant-loop-y
invariant-loop-y l = l.row ≡ map (restrictions_in l.store l.t l.f) (range_with_len 0 l.y)
