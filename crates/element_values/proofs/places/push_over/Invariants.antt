use Rattle.std.proofs.Common.{◌≡◌, ◌++◌, map}
use Rattle.std.specs.List.{range_with_len}
use Rattle.element_values.specs.Places.{spot}
use Rattle.element_values.proofs.places.push_over.Given as goal

abbrev pub invariant-loop-w : goal.invariant-loop-w
invariant-loop-w l = l.places ≡ l.fn.places ++ map (spot l.f) (range_with_len 0 l.w)
