use Rattle.std.proofs.Common.{◌≡◌, map, length, eqb, get_or}
use Rattle.std.specs.List.{range_with_len}
use Rattle.finite_limits.specs.Kept.{passing}
use Rattle.finite_limits.proofs.Threads.{AreCounted}
use Rattle.finite_limits.proofs.matches.counted.Given as goal

abbrev pub invariant-loop-y : goal.invariant-loop-y
invariant-loop-y l = record {
  places : l.places ≡ map (λ y. length (passing (λ w. eqb (get_or l.n w 0) (get_or l.n y 0)) y)) (range_with_len 0 l.y);
  counts : AreCounted l.n l.values l.y l.counts.items;
}
