use Rattle.std.proofs.Common.{◌≡◌, take}
use Rattle.sheaf_test.specs.Families.{bounds_of}
use Rattle.sheaf_test.proofs.squares.bounds.Given as goal

abbrev pub invariant-loop-f : goal.invariant-loop-f
invariant-loop-f l = l.bounds ≡ bounds_of l.cat l.x (take l.f-index l.arrows)
