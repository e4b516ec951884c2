use Rattle.std.proofs.Common.{◌≡◌, flat_map, take}
use Rattle.sealed_types.specs.Sealed.{sizes_in, restrictions_in}
use Rattle.function_objects.specs.Functions.{arrow_squares}
use Rattle.function_objects.proofs.squares.function_squares.Given as goal

abbrev pub invariant-loop-f : goal.invariant-loop-f
invariant-loop-f l = l.squares ≡ flat_map (arrow_squares l.cat (sizes_in l.store l.s) (restrictions_in l.store l.s) l.c) (take l.f-index l.f-items)
