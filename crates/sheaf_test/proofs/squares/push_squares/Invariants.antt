use Rattle.std.proofs.Common.{◌≡◌, ◌++◌, map, take}
use Rattle.sheaf_test.specs.Families.{square_of}
use Rattle.sheaf_test.proofs.squares.push_squares.Given as goal

abbrev pub invariant-loop-g : goal.invariant-loop-g
invariant-loop-g l = l.squares ≡ l.fn.squares ++ map (square_of l.cat l.arrows l.i) (take l.g-index l.g-items)
