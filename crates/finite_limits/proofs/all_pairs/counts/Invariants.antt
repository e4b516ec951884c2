use Rattle.std.proofs.Common.{◌≡◌, ◌*◌, map}
use Rattle.std.specs.List.{range_with_len}
use Rattle.topos_model.specs.Laws.{size}
use Rattle.finite_limits.proofs.all_pairs.counts.Given as goal

abbrev pub invariant-loop-c : goal.invariant-loop-c
invariant-loop-c l = l.counts ≡ map (λ c. size l.x c * size l.y c) (range_with_len 0 l.c)
