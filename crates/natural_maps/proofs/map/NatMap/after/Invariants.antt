use Rattle.std.proofs.Common.{◌≡◌, take}
use Rattle.topos_model.specs.presheaves.Maps.{after}
use Rattle.natural_maps.proofs.map.NatMap.after.Given as goal

abbrev pub invariant-loop-c : goal.invariant-loop-c
invariant-loop-c l = l.rows ≡ after (take l.c l.self) (take l.c l.first)
