use Rattle.std.proofs.Common.{◌≡◌}
use Rattle.std.specs.List.{range_with_len}
use Rattle.finite_limits.proofs.all_pairs.numbers.Given as goal

abbrev pub invariant-loop-y : goal.invariant-loop-y
invariant-loop-y l = l.row ≡ range_with_len 0 l.y
