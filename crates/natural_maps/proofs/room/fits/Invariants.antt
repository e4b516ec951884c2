use Rattle.std.proofs.Common.{◌≡◌, ◌+◌}
use Rattle.presheaf_core.proofs.CellSums.{cells_below}
use Rattle.natural_maps.proofs.room.fits.Given as goal

abbrev pub invariant-loop-c : goal.invariant-loop-c
invariant-loop-c l = cells_below l.cat l.sizes l.c + l.left ≡ l.room
