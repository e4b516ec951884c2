use Rattle.std.proofs.Common.{◌≡◌, ◌-◌, flat_map}
use Rattle.std.specs.List.{range_with_len}
use Rattle.natural_maps.specs.Squares.{squares_along}
use Rattle.natural_maps.proofs.squares.squares.Given as goal

abbrev pub invariant-loop-f : goal.invariant-loop-f
invariant-loop-f l = l.squares ≡ flat_map (squares_along l.cat l.p) (range_with_len l.cat.objects (l.f - l.cat.objects))
