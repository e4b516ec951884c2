use Rattle.std.proofs.Common.{◌≤◌, get_or, arith}
use Rattle.natural_maps.specs.Room.{sized_cells}
use Rattle.natural_maps.proofs.CellSums.{size_within}
use Rattle.natural_maps.proofs.room.sizes_within.Goals as goal

pub narrowed-requires : goal.narrowed-requires
narrowed-requires c = record {
  small = λ i h.
      let w : get_or c.args.counts.now i 0 ≤ sized_cells c.args.cat.now c.args.counts.now = size_within c.args.cat.now c.args.counts.now i (omega (arith, c.requires.objects)) in
      let f : sized_cells c.args.cat.now c.args.counts.now ≤ c.args.room = c.fits.ensures.fits c.if-not-fits.false in
      omega (arith, c.requires.room);
}
