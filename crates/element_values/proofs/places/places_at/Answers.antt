use Rattle.std.proofs.Common.{flat_map, ap, ◌∙◌, arith}
use Rattle.std.proofs.lemmas.List.{take_all}
use Rattle.sealed_types.specs.Sealed.{sizes_in}
use Rattle.element_values.specs.Places.{places_over, places_at}
use Rattle.element_values.proofs.places.places_at.Goals as goal

pub returns : goal.returns
unfolding places_at
returns c =
    c.loop-f.invariant
    ∙ ap (flat_map (places_over c.args.cat.now (sizes_in c.args.store.now c.args.of)))
    (take_all c.loop-f.f-index c.arrows_into-f-items.result.now (omega (arith, c.loop-f-test.false)) ∙ c.arrows_into-f-items.ensures.value)
