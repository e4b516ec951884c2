use Rattle.std.proofs.Common.{◌≡◌, map, take}
use Rattle.natural_search.specs.Search.{fitting}
use Rattle.natural_maps.specs.Places.{cut}
use Rattle.natural_maps.specs.Search.{bounds_of}
use Rattle.natural_maps.specs.Squares.{squares_of}
use Rattle.natural_maps.proofs.listing.maps_of.Given as goal

abbrev pub invariant-loop-i : goal.invariant-loop-i
invariant-loop-i l = l.all ≡ map (cut l.p.sizes) (take l.i (fitting l.q.along (squares_of l.cat l.p) (bounds_of l.cat l.p l.q)))
