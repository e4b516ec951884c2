use Rattle.std.proofs.Common.{◌+◌, ◌<◌, length, drop, sym, ap, ◌∙◌, arith}
use Rattle.finite_lists.proofs.Lists.{In_at}
use Rattle.fin_category.specs.Masks.{all_added}
use Rattle.fin_category.specs.ArrowSets.{arrows_in}
use Rattle.closed_sets.specs.Closed.{chosen}
use Rattle.omega_object.proofs.ChosenArrows.{chosen_more, chosen_skipped, chosen_end}
use Rattle.omega_object.proofs.listing.arrows_at.Goals as goal
use Rattle.omega_object.proofs.listing.arrows_at.Goals.{then-get, else-get}

pub insert-requires : goal.insert-requires
insert-requires c = c.requires.few _ (In_at c.args.arrows.now c.places.i 0 c.places-test.true)

pub places-preserved : goal.places-preserved
places-preserved c =
    let xs = c.args.arrows.now in
    let a = c.args.set.now in
    let within : c.places.i < length a = omega (arith, c.requires.places, c.places-test.true) in
    elim c.if-get.branch [
      | then-get w ↦
          chosen_more (arrows_in c.places.mask) (arrows_in c.if-get.mask) xs a c.places.i c.places-test.true within (sym c.get.ensures ∙ w.if-get.true) (ap arrows_in w.mask-is ∙ w.insert.ensures)
          ∙ c.places.invariant
      | else-get w ↦
          ap (λ m. all_added (arrows_in m) (chosen (drop (c.places.i + 1) xs) (drop (c.places.i + 1) a))) w.mask-is
          ∙ chosen_skipped (arrows_in c.places.mask) xs a c.places.i c.places-test.true within (sym c.get.ensures ∙ w.if-get.false)
          ∙ c.places.invariant
    ]

pub returns : goal.returns
returns c = sym (chosen_end (arrows_in c.places.mask) c.args.arrows.now c.args.set.now c.places.i (omega (arith, c.places-test.false))) ∙ c.places.invariant
