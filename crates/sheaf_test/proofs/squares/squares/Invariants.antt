use Rattle.std.proofs.Common.{◌≡◌, flat_map}
use Rattle.std.specs.List.{range_with_len}
use Rattle.sheaf_test.specs.Families.{squares_at}
use Rattle.sheaf_test.proofs.squares.squares.Given as goal

abbrev pub invariant-loop-i : goal.invariant-loop-i
invariant-loop-i l = l.squares ≡ flat_map (squares_at l.cat l.arrows) (range_with_len 0 l.i)
