use Rattle.std.proofs.Common.{◌≡◌, map}
use Rattle.std.specs.List.{range_with_len}
use Rattle.finite_colimits.specs.Sums.{sum_row}
use Rattle.finite_colimits.proofs.sum.sum_restrictions.Given as goal

abbrev pub invariant-loop-f : goal.invariant-loop-f
invariant-loop-f l = l.rows ≡ map (sum_row l.cat l.x l.y) (range_with_len 0 l.f)
