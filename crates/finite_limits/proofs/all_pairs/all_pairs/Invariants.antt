use Rattle.std.proofs.Common.{◌≡◌, map}
use Rattle.std.specs.List.{range_with_len}
use Rattle.topos_model.specs.Laws.{size}
use Rattle.finite_limits.specs.Pairs.{firsts, seconds, starts, whole_fibres, whole_places}
use Rattle.finite_limits.proofs.all_pairs.all_pairs.Given as goal

abbrev pub invariant-loop-c : goal.invariant-loop-c
invariant-loop-c l = record {
  first : l.first ≡ map (λ c. firsts (whole_fibres l.y c) (size l.x c)) (range_with_len 0 l.c);
  second : l.second ≡ map (λ c. seconds (whole_fibres l.y c) (size l.x c)) (range_with_len 0 l.c);
  starts : l.starts ≡ map (λ c. starts (whole_fibres l.y c) (size l.x c)) (range_with_len 0 l.c);
  places : l.places ≡ map (whole_places l.y) (range_with_len 0 l.c);
}
