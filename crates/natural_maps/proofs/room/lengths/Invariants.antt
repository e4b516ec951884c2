use Rattle.std.proofs.Common.{◌≡◌, take, map, length}
use Rattle.natural_maps.proofs.room.lengths.Given as goal

abbrev pub invariant-loop-row : goal.invariant-loop-row
invariant-loop-row l = l.lengths ≡ map length (take l.row-index l.rows)
