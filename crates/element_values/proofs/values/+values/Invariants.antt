use Rattle.std.proofs.Common.{◌≡◌, ◌+◌, ◌*◌, List, map, max, take}
use Rattle.topos_model.specs.declared.ty.Ty.{size-Ty}
use Rattle.topos_model.specs.types.Types.{Presheaf}
use Rattle.element_values.specs.Known.{Knows}
use Rattle.element_values.specs.Places.{entry_at, assign_at}
use Rattle.element_values.proofs.values.+values.Given as goal

abbrev pub decreases-element_value : goal.decreases-element_value
decreases-element_value l = 3 * size-Ty l.ty.now

abbrev pub decreases-part : goal.decreases-part
decreases-part l = 3 * size-Ty l.ty.now + 1

abbrev pub decreases-pair : goal.decreases-pair
decreases-pair l = 3 * max (size-Ty l.left.now) (size-Ty l.right.now) + 2

abbrev pub decreases-subset : goal.decreases-subset
decreases-subset l = 3 * size-Ty l.of.now + 2

abbrev pub decreases-function : goal.decreases-function
decreases-function l = 3 * max (size-Ty l.from.now) (size-Ty l.to.now) + 2

abbrev pub invariant-subset-loop-place : goal.invariant-subset-loop-place
invariant-subset-loop-place l = (functors : List Presheaf) → Knows l.elements functors → l.entries ≡ map (entry_at l.elements.site.now functors l.of) (take l.place-index l.places)

abbrev pub invariant-function-loop-image : goal.invariant-function-loop-image
invariant-function-loop-image l = (functors : List Presheaf) → Knows l.elements functors → l.assigns ≡ map (assign_at l.elements.site.now functors l.from l.to) (take l.image-index l.images)
