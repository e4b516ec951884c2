use Rattle.std.proofs.Common.{◌≡◌, [], get_or, flat_map}
use Rattle.std.specs.List.{range_with_len}
use Rattle.natural_maps.specs.Tables.{row_images}
use Rattle.natural_maps.proofs.tests.raw_map.Given as goal

abbrev pub invariant-loop-c : goal.invariant-loop-c
invariant-loop-c l = l.entries ≡ flat_map (λ c. row_images c (get_or l.rows c [])) (range_with_len 0 l.c)
