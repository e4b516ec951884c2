use Rattle.std.proofs.Common.{◌<◌, ◌≤◌, ◌+◌, ℕ, List, length, sym, ap, ◌∙◌, subst}
use Rattle.std.proofs.lemmas.List.FromFn.{length-map-range_with_len}
use Rattle.topos_model.specs.types.Types.{Presheaf}
use Rattle.topos_model.specs.Laws.{size}
use Rattle.topos_model.specs.presheaves.Maps.{Components}
use Rattle.topos_model.specs.presheaves.Colimits.{IsCoproduct}
use Rattle.natural_maps.specs.Room.{sized_cells}
use Rattle.natural_maps.proofs.CellSums.{cells_by_sizes, sizes_are, sizes_over}
use Rattle.finite_colimits.specs.Sums.{sum_presheaf, first_inclusion, second_inclusion}
use Rattle.finite_colimits.proofs.SumRows.{sum_coproduct, coproduct_over, few_within}
use Rattle.finite_colimits.proofs.sum.coproduct.Goals as goal

pub sizes_within-requires-clause-objects : goal.sizes_within-requires-clause-objects
sizes_within-requires-clause-objects c =
    ap length (c.as_slice.ensures ∙ c.in_ok-counts.ensures) ∙ length-map-range_with_len (λ d. size c.args.x.now d + size c.args.y.now d) 0 c.args.cat.now.objects

pub returns-in-None-clause-over : goal.returns-in-None-clause-over
returns-in-None-clause-over c =
    coproduct_over c.args.cat.now c.sizes_within.ensures.lawful c.args.x.now c.args.y.now c.requires.first c.requires.second c.args.room
    (subst (λ (s : List ℕ). c.args.room < sized_cells c.args.cat.now s) (c.as_slice.ensures ∙ c.in_ok-counts.ensures)
    (sizes_over c.args.cat.now c.as_slice.result.now c.args.room c.in_ok-sizes_within.field-0 c.in-None.is c.in_ok-sizes_within.ensures.sizes))

pub returns-in-None-clause-exists : goal.returns-in-None-clause-exists
returns-in-None-clause-exists c =
    let k = c.args.cat.now in (
      sum_presheaf k c.args.x.now c.args.y.now,
      first_inclusion k c.args.x.now,
      second_inclusion k c.args.x.now c.args.y.now,
      sum_coproduct k c.sizes_within.ensures.lawful c.args.x.now c.args.y.now c.requires.first c.requires.second,
    )

pub summed-requires-clause-few : goal.summed-requires-clause-few
summed-requires-clause-few c =
    let sizes = sizes_are c.args.cat.now c.as_slice.result.now c.args.room c.in_ok-sizes_within.field-0 c.in-Some.sizes c.in-Some.is c.in_ok-sizes_within.ensures.sizes in
    few_within c.args.cat.now c.args.x.now c.args.y.now c.args.room c.requires.room
    (subst (λ (s : List ℕ). sized_cells c.args.cat.now s ≤ c.args.room) (c.as_slice.ensures ∙ c.in_ok-counts.ensures) sizes.1)

pub summed-requires-clause-sizes : goal.summed-requires-clause-sizes
summed-requires-clause-sizes c =
    let sizes = sizes_are c.args.cat.now c.as_slice.result.now c.args.room c.in_ok-sizes_within.field-0 c.in-Some.sizes c.in-Some.is c.in_ok-sizes_within.ensures.sizes in
    sizes.0 ∙ c.as_slice.ensures ∙ c.in_ok-counts.ensures

pub returns-clause-coproduct : goal.returns-clause-coproduct
returns-clause-coproduct c =
    let co = sum_coproduct c.args.cat.now c.sizes_within.ensures.lawful c.args.x.now c.args.y.now c.requires.first c.requires.second in
    let made = c.in_ok-sum-in-Some in
    subst (λ (Z : Presheaf). IsCoproduct c.args.cat.now c.args.x.now c.args.y.now Z made.i made.j) (sym made.ensures.sum)
    (subst (λ (i : Components). IsCoproduct c.args.cat.now c.args.x.now c.args.y.now (sum_presheaf c.args.cat.now c.args.x.now c.args.y.now) i made.j) (sym made.ensures.first)
    (subst (λ (j : Components). IsCoproduct c.args.cat.now c.args.x.now c.args.y.now (sum_presheaf c.args.cat.now c.args.x.now c.args.y.now) (first_inclusion c.args.cat.now c.args.x.now) j) (sym made.ensures.second) co))

pub returns-clause-room : goal.returns-clause-room
returns-clause-room c =
    let sizes = sizes_are c.args.cat.now c.as_slice.result.now c.args.room c.in_ok-sizes_within.field-0 c.in-Some.sizes c.in-Some.is c.in_ok-sizes_within.ensures.sizes in
    subst (λ (n : ℕ). n ≤ c.args.room)
    (sym (cells_by_sizes c.args.cat.now c.in_ok-sum-in-Some.sum ∙ ap (λ (Z : Presheaf). sized_cells c.args.cat.now Z.sizes) c.in_ok-sum-in-Some.ensures.sum))
    (subst (λ (s : List ℕ). sized_cells c.args.cat.now s ≤ c.args.room) (c.as_slice.ensures ∙ c.in_ok-counts.ensures) sizes.1)
