use Rattle.std.proofs.Common.{◌≡◌, ◌++◌, filter, map, take}
use Rattle.sealed_types.specs.Sealed.{sizes_in, restrictions_in}
use Rattle.function_objects.specs.Functions.{square_at, is_declared}
use Rattle.function_objects.proofs.squares.push_pair_squares.Given as goal

abbrev pub invariant-loop-g : goal.invariant-loop-g
invariant-loop-g l =
    l.squares ≡ l.fn.squares ++ map (square_at l.cat (sizes_in l.store l.s) (restrictions_in l.store l.s) l.c l.f l.w) (filter (is_declared l.cat (sizes_in l.store l.s) (restrictions_in l.store l.s)) (take l.g-index l.g-items))
