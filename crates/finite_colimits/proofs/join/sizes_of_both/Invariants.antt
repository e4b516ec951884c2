use Rattle.std.proofs.Common.{◌≡◌, ◌+◌, ◌<◌, ◌^◌, ℕ, map}
use Rattle.std.specs.List.{range_with_len}
use Rattle.topos_model.specs.Laws.{size}
use Rattle.finite_colimits.proofs.join.sizes_of_both.Given as goal

abbrev pub invariant-loop-c : goal.invariant-loop-c
invariant-loop-c l = record {
  sizes : l.sizes ≡ map (λ c. size l.x c + size l.y c) (range_with_len 0 l.c);
  few : (c : ℕ) → c < l.c → size l.x c + size l.y c < 2 ^ 32;
}
