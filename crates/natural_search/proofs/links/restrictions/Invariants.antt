use Rattle.std.proofs.Common.{◌≡◌, map, take}
use Rattle.natural_search.specs.Squares.{restricted_of}
use Rattle.natural_search.proofs.links.restrictions.Given as goal

abbrev pub invariant-loop-square : goal.invariant-loop-square
invariant-loop-square l = l.places ≡ map restricted_of (take l.square-index l.squares)
