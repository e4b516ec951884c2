use Rattle.std.proofs.Common.{◌≡◌, flat_map, take}
use Rattle.sealed_types.specs.Sealed.{sizes_in}
use Rattle.element_values.specs.Places.{places_over}
use Rattle.element_values.proofs.places.places_at.Given as goal

abbrev pub invariant-loop-f : goal.invariant-loop-f
invariant-loop-f l = l.places ≡ flat_map (places_over l.cat (sizes_in l.store l.of)) (take l.f-index l.f-items)
