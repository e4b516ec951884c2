use Rattle.std.proofs.Common.{drop}
use Rattle.natural_maps.specs.Images.{AreImages}
use Rattle.natural_maps.proofs.images.images.Given as goal

abbrev pub invariant-loop-i : goal.invariant-loop-i
invariant-loop-i l = AreImages l.sizes (drop l.i l.entries) l.images.items
