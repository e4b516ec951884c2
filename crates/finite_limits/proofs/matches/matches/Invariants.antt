use Rattle.std.proofs.Common.{◌≡◌, map}
use Rattle.std.specs.List.{range_with_len}
use Rattle.topos_model.specs.Laws.{size}
use Rattle.finite_limits.specs.Pairs.{firsts, seconds, starts}
use Rattle.finite_limits.specs.Matches.{match_fibres}
use Rattle.finite_limits.proofs.matches.matches.Given as goal

abbrev pub invariant-loop-c : goal.invariant-loop-c
invariant-loop-c l = record {
  first : l.first ≡ map (λ c. firsts (match_fibres l.m l.n c) (size l.x c)) (range_with_len 0 l.c);
  second : l.second ≡ map (λ c. seconds (match_fibres l.m l.n c) (size l.x c)) (range_with_len 0 l.c);
  starts : l.starts ≡ map (λ c. starts (match_fibres l.m l.n c) (size l.x c)) (range_with_len 0 l.c);
}
