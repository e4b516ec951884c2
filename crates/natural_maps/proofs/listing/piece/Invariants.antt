use Rattle.std.proofs.Common.{◌≡◌, take, drop}
use Rattle.natural_maps.proofs.listing.piece.Given as goal

abbrev pub invariant-loop-x : goal.invariant-loop-x
invariant-loop-x l = l.row ≡ take l.x (drop l.start l.values)
