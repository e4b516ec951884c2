use Rattle.std.proofs.Common.{◌≡◌, flat_map, replicate}
use Rattle.std.specs.List.{range_with_len}
use Rattle.topos_model.specs.Laws.{size}
use Rattle.natural_maps.proofs.bounds.bounds.Given as goal

abbrev pub invariant-loop-c : goal.invariant-loop-c
invariant-loop-c l = l.bounds ≡ flat_map (λ c. replicate (size l.p c) (size l.q c)) (range_with_len 0 l.c)
