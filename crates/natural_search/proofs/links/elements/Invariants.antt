use Rattle.std.proofs.Common.{◌≡◌, map, take}
use Rattle.natural_search.specs.Squares.{element_of}
use Rattle.natural_search.proofs.links.elements.Given as goal

abbrev pub invariant-loop-square : goal.invariant-loop-square
invariant-loop-square l = l.places ≡ map element_of (take l.square-index l.squares)
