use Rattle.std.proofs.Common.{◌≡◌, ◌+◌, ◌++◌, map, get_or}
use Rattle.std.specs.List.{range_with_len}
use Rattle.natural_search.specs.declared.squares.Square.{Square}
use Rattle.natural_maps.proofs.squares.push_squares.Given as goal

abbrev pub invariant-loop-x : goal.invariant-loop-x
invariant-loop-x l = l.squares ≡ l.fn.squares ++ map {B = Square} (λ x. record { arrow = l.arrow; element = l.elements + x; restricted = l.restrictions + get_or l.along x 0 }) (range_with_len 0 l.x)
