use Rattle.std.proofs.Common.{◌≡◌, take}
use Rattle.topos_model.specs.presheaves.Maps.{after_component}
use Rattle.finite_limits.proofs.values.places.Given as goal

abbrev pub invariant-loop-y : goal.invariant-loop-y
invariant-loop-y l = l.row ≡ after_component l.ranks (take l.y-index l.m)
