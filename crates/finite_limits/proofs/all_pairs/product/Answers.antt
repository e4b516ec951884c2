use Rattle.std.proofs.Common.{◌≡◌, ◌<◌, ◌≤◌, ◌*◌, ℕ, List, length, sym, ap, ◌∙◌, subst}
use Rattle.std.proofs.lemmas.List.FromFn.{length-map-range_with_len}
use Rattle.topos_model.specs.types.Types.{Presheaf}
use Rattle.topos_model.specs.Laws.{size}
use Rattle.natural_maps.specs.Room.{sized_cells}
use Rattle.natural_maps.proofs.CellSums.{cells_by_sizes, sizes_are, sizes_over}
use Rattle.finite_limits.specs.Pairs.{first_parts, second_parts, start_rows, place_rows, whole_fibres, whole_places, pair_presheaf, product_sizes}
use Rattle.finite_limits.proofs.ProductPairs.{pair_product, product_over, product_few, made_paired, made_few, made_sizes, made_product}
use Rattle.finite_limits.proofs.all_pairs.product.Goals as goal

pub sizes_within-requires-clause-objects : goal.sizes_within-requires-clause-objects
sizes_within-requires-clause-objects c =
    ap length (c.as_slice.ensures ∙ c.in_ok-counts.ensures) ∙ length-map-range_with_len (λ d. size c.args.x.now d * size c.args.y.now d) 0 c.args.cat.now.objects

pub returns-in-None-clause-over : goal.returns-in-None-clause-over
returns-in-None-clause-over c =
    product_over c.args.cat.now c.sizes_within.ensures.lawful c.args.x.now c.args.y.now c.requires.first c.requires.second c.args.room
    (subst (λ (s : List ℕ). c.args.room < sized_cells c.args.cat.now s) (c.as_slice.ensures ∙ c.in_ok-counts.ensures)
    (sizes_over c.args.cat.now c.as_slice.result.now c.args.room c.in_ok-sizes_within.field-0 c.in-None.is c.in_ok-sizes_within.ensures.sizes))

pub returns-in-None-clause-exists : goal.returns-in-None-clause-exists
returns-in-None-clause-exists c =
    let k = c.args.cat.now in
    let X = c.args.x.now in
    let Y = c.args.y.now in (
      pair_presheaf k X Y (first_parts k X (whole_fibres Y)) (second_parts k X (whole_fibres Y)) (start_rows k X (whole_fibres Y)) (place_rows k (whole_places Y)),
      first_parts k X (whole_fibres Y),
      second_parts k X (whole_fibres Y),
      pair_product k c.sizes_within.ensures.lawful X Y c.requires.first c.requires.second,
    )

pub all_pairs-requires-clause-few : goal.all_pairs-requires-clause-few
all_pairs-requires-clause-few c =
    let sizes = sizes_are c.args.cat.now c.as_slice.result.now c.args.room c.in_ok-sizes_within.field-0 c.in-Some.sizes c.in-Some.is c.in_ok-sizes_within.ensures.sizes in
    product_few c.args.cat.now c.args.x.now c.args.y.now c.args.room c.requires.room
    (subst (λ (s : List ℕ). sized_cells c.args.cat.now s ≤ c.args.room) (c.as_slice.ensures ∙ c.in_ok-counts.ensures) sizes.1)

pub paired-requires-clause-paired : goal.paired-requires-clause-paired
paired-requires-clause-paired c =
    let made = c.in_ok-pairs-in-Some in
    made_paired c.args.cat.now c.sizes_within.ensures.lawful c.args.x.now c.args.y.now c.requires.first c.requires.second made.pairs.first made.pairs.second made.pairs.starts made.pairs.places
    made.ensures.first made.ensures.second made.ensures.starts made.ensures.places

pub paired-requires-clause-few : goal.paired-requires-clause-few
paired-requires-clause-few c =
    let sizes = sizes_are c.args.cat.now c.as_slice.result.now c.args.room c.in_ok-sizes_within.field-0 c.in-Some.sizes c.in-Some.is c.in_ok-sizes_within.ensures.sizes in
    let made = c.in_ok-pairs-in-Some in
    made_few c.args.cat.now c.sizes_within.ensures.lawful c.args.x.now c.args.y.now c.requires.first c.requires.second made.pairs.first made.pairs.second made.pairs.starts made.pairs.places
    made.ensures.first made.ensures.second made.ensures.starts made.ensures.places c.args.room c.requires.room
    (subst (λ (s : List ℕ). sized_cells c.args.cat.now s ≤ c.args.room) (c.as_slice.ensures ∙ c.in_ok-counts.ensures) sizes.1)

pub paired-requires-clause-sizes : goal.paired-requires-clause-sizes
paired-requires-clause-sizes c =
    let sizes = sizes_are c.args.cat.now c.as_slice.result.now c.args.room c.in_ok-sizes_within.field-0 c.in-Some.sizes c.in-Some.is c.in_ok-sizes_within.ensures.sizes in
    let made = c.in_ok-pairs-in-Some in
    sizes.0 ∙ c.as_slice.ensures ∙ c.in_ok-counts.ensures
    ∙ made_sizes c.args.cat.now c.sizes_within.ensures.lawful c.args.x.now c.args.y.now c.requires.first c.requires.second made.pairs.first made.pairs.second made.pairs.starts made.pairs.places
    made.ensures.first made.ensures.second made.ensures.starts made.ensures.places

pub returns-clause-product : goal.returns-clause-product
returns-clause-product c =
    let made = c.in_ok-pairs-in-Some in
    let done = c.in_ok-functor-in-Some in
    made_product c.args.cat.now c.sizes_within.ensures.lawful c.args.x.now c.args.y.now c.requires.first c.requires.second made.pairs.first made.pairs.second made.pairs.starts made.pairs.places
    made.ensures.first made.ensures.second made.ensures.starts made.ensures.places done.functor done.first done.second done.ensures.functor done.ensures.first done.ensures.second

pub returns-clause-room : goal.returns-clause-room
returns-clause-room c =
    let sizes = sizes_are c.args.cat.now c.as_slice.result.now c.args.room c.in_ok-sizes_within.field-0 c.in-Some.sizes c.in-Some.is c.in_ok-sizes_within.ensures.sizes in
    let made = c.in_ok-pairs-in-Some in
    let done = c.in_ok-functor-in-Some in
    let are : product_sizes c.args.cat.now c.args.x.now c.args.y.now ≡ _ =
    made_sizes c.args.cat.now c.sizes_within.ensures.lawful c.args.x.now c.args.y.now c.requires.first c.requires.second made.pairs.first made.pairs.second made.pairs.starts made.pairs.places
    made.ensures.first made.ensures.second made.ensures.starts made.ensures.places in
    subst (λ (n : ℕ). n ≤ c.args.room)
    (sym (cells_by_sizes c.args.cat.now done.functor ∙ ap (λ (Z : Presheaf). sized_cells c.args.cat.now Z.sizes) done.ensures.functor ∙ ap (sized_cells c.args.cat.now) (sym are)))
    (subst (λ (s : List ℕ). sized_cells c.args.cat.now s ≤ c.args.room) (c.as_slice.ensures ∙ c.in_ok-counts.ensures) sizes.1)
