use Rattle.std.proofs.Common.{◌≡◌, ◌+◌, ◌++◌, map}
use Rattle.std.specs.List.{range_with_len}
use Rattle.power_objects.proofs.under.push_numbers.Given as goal

abbrev pub invariant-loop-w : goal.invariant-loop-w
invariant-loop-w l = l.out ≡ l.fn.out ++ map (λ w. l.start + w) (range_with_len 0 l.w)
