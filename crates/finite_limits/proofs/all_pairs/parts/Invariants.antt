use Rattle.std.proofs.Common.{◌≡◌, ◌++◌, replicate}
use Rattle.std.specs.List.{range_with_len}
use Rattle.finite_limits.specs.Pairs.{firsts, seconds}
use Rattle.finite_limits.proofs.all_pairs.parts.Given as goal

abbrev pub invariant-loop-x : goal.invariant-loop-x
invariant-loop-x l = record {
  first : l.first ≡ firsts (λ _. range_with_len 0 l.b) l.x;
  second : l.second ≡ seconds (λ _. range_with_len 0 l.b) l.x;
}

abbrev pub invariant-loop-y : goal.invariant-loop-y
invariant-loop-y l = record {
  first : l.first ≡ firsts (λ _. range_with_len 0 l.b) l.x ++ replicate l.y l.x;
  second : l.second ≡ seconds (λ _. range_with_len 0 l.b) l.x ++ range_with_len 0 l.y;
}
