use Rattle.std.proofs.Common.{◌≡◌, ◌+◌, ◌*◌, ◌≤◌, ◌^◌, map}
use Rattle.std.specs.List.{range_with_len}
use Rattle.natural_maps.specs.Places.{offset}
use Rattle.natural_maps.proofs.places.offsets.Given as goal

abbrev pub invariant-loop-size : goal.invariant-loop-size
invariant-loop-size l = record {
  offsets : l.offsets ≡ map (offset l.sizes) (range_with_len 0 (l.size-index + 1));
  before : l.before ≡ offset l.sizes l.size-index;
  few : l.before ≤ l.size-index * 2 ^ 32;
}
