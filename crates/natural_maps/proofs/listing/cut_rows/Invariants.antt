use Rattle.std.proofs.Common.{◌≡◌, take}
use Rattle.natural_maps.specs.Places.{offset, cut}
use Rattle.natural_maps.proofs.listing.cut_rows.Given as goal

abbrev pub invariant-loop-size : goal.invariant-loop-size
invariant-loop-size l = record {
  rows : l.rows ≡ cut (take l.size-index l.sizes) l.values;
  start : l.start ≡ offset l.sizes l.size-index;
}
