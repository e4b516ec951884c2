use Rattle.std.proofs.Common.{◌≡◌, map, take}
use Rattle.natural_search.specs.Squares.{later_place}
use Rattle.natural_search.proofs.squares.later_places.Given as goal

abbrev pub invariant-loop-square : goal.invariant-loop-square
invariant-loop-square l = l.places ≡ map later_place (take l.square-index l.squares)
