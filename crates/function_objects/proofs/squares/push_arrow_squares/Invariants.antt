use Rattle.std.proofs.Common.{◌≡◌, ◌++◌, flat_map}
use Rattle.std.specs.List.{range_with_len}
use Rattle.sealed_types.specs.Sealed.{sizes_in, restrictions_in}
use Rattle.function_objects.specs.Functions.{pair_squares}
use Rattle.function_objects.proofs.squares.push_arrow_squares.Given as goal

abbrev pub invariant-loop-w : goal.invariant-loop-w
invariant-loop-w l = l.squares ≡ l.fn.squares ++ flat_map (pair_squares l.cat (sizes_in l.store l.s) (restrictions_in l.store l.s) l.c l.f) (range_with_len 0 l.w)
