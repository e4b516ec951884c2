use Rattle.std.proofs.Common.{◌≡◌, ◌≤◌, ◌*◌, ◌^◌, get_or}
use Rattle.std.specs.List.{range_with_len, sum_by}
use Rattle.finite_limits.proofs.matches.pair_count.Given as goal

abbrev pub invariant-loop-x : goal.invariant-loop-x
invariant-loop-x l = record {
  count : l.count ≡ sum_by (λ x. get_or l.counts (get_or l.m x 0) 0) (range_with_len 0 l.x);
  few : l.count ≤ l.x * 2 ^ 32;
}
