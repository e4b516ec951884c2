use Rattle.std.proofs.Common.{◌≡◌, take}
use Rattle.natural_maps.proofs.room.narrowed.Given as goal

abbrev pub invariant-loop-number : goal.invariant-loop-number
invariant-loop-number l = l.row ≡ take l.number-index l.numbers
