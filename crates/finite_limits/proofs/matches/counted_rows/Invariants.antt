use Rattle.std.proofs.Common.{◌≡◌, map, length}
use Rattle.std.specs.List.{range_with_len}
use Rattle.topos_model.specs.Laws.{size}
use Rattle.finite_limits.specs.Pairs.{seconds}
use Rattle.finite_limits.specs.Matches.{match_fibres, match_places}
use Rattle.finite_limits.proofs.matches.counted_rows.Given as goal

abbrev pub invariant-loop-c : goal.invariant-loop-c
invariant-loop-c l = record {
  counts : l.counts ≡ map (λ c. length (seconds (match_fibres l.m l.n c) (size l.x c))) (range_with_len 0 l.c);
  places : l.places ≡ map (match_places l.n) (range_with_len 0 l.c);
}
