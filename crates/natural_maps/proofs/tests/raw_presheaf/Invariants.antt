use Rattle.std.proofs.Common.{◌≡◌, take}
use Rattle.natural_maps.proofs.tests.raw_presheaf.Given as goal

abbrev pub invariant-loop-size : goal.invariant-loop-size
invariant-loop-size l = l.copy ≡ take l.size-index l.sizes
