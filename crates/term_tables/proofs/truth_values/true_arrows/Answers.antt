use Rattle.std.proofs.Common.{◌≡◌, ◌+◌, ◌<◌, false, length, get_or, map, drop, sym, ap, ◌∙◌, arith}
use Rattle.std.specs.List.{range_with_len}
use Rattle.std.proofs.lemmas.List.FromFn.{length-map-range_with_len, get_or-map-range_with_len}
use Rattle.finite_lists.proofs.Lists.{In_at}
use Rattle.fin_category.specs.Masks.{all_added}
use Rattle.fin_category.specs.ArrowSets.{arrows_in}
use Rattle.closed_sets.specs.Closed.{chosen}
use Rattle.truth_tables.specs.Tables.{along}
use Rattle.omega_object.proofs.ChosenArrows.{chosen_more, chosen_skipped, chosen_end}
use Rattle.term_tables.proofs.truth_values.true_arrows.Goals as goal
use Rattle.term_tables.proofs.truth_values.true_arrows.Goals.{then-bit, else-bit}

pub bit-requires : goal.bit-requires
bit-requires c = let e = c.requires.read.entries c.places.j c.places-test.true in record { object = e.0; tuple = e.1 }

pub insert-requires : goal.insert-requires
insert-requires c = c.requires.read.few _ (In_at c.args.arrows.now c.places.j 0 c.places-test.true)

pub places-preserved : goal.places-preserved
places-preserved c =
    let xs = c.args.arrows.now in
    let p = along c.args.truths.now c.args.sources.now c.args.restrictions.now in
    let a = map p (range_with_len 0 (length xs)) in
    let within : c.places.j < length a = omega (arith, c.places-test.true, length-map-range_with_len p 0 (length xs)) in
    let here : get_or a c.places.j false ≡ p c.places.j = get_or-map-range_with_len p 0 (length xs) c.places.j c.places.j false c.places-test.true (omega arith) in
    elim c.if-bit.branch [
      | then-bit w ↦
          chosen_more (arrows_in c.places.mask) (arrows_in c.if-bit.mask) xs a c.places.j c.places-test.true within (here ∙ sym c.bit.ensures ∙ w.if-bit.true) (ap arrows_in w.mask-is ∙ w.insert.ensures)
          ∙ c.places.invariant
      | else-bit w ↦
          ap (λ m. all_added (arrows_in m) (chosen (drop (c.places.j + 1) xs) (drop (c.places.j + 1) a))) w.mask-is
          ∙ chosen_skipped (arrows_in c.places.mask) xs a c.places.j c.places-test.true within (here ∙ sym c.bit.ensures ∙ w.if-bit.false)
          ∙ c.places.invariant
    ]

pub returns : goal.returns
returns c =
    let p = along c.args.truths.now c.args.sources.now c.args.restrictions.now in
    sym (chosen_end (arrows_in c.places.mask) c.args.arrows.now (map p (range_with_len 0 (length c.args.arrows.now))) c.places.j (omega (arith, c.places-test.false))) ∙ c.places.invariant
