use Rattle.std.proofs.Common.{◌≡◌, ◌<◌, ◌≤◌, ℕ, List, length, sym, ap, ◌∙◌, subst}
use Rattle.std.proofs.lemmas.List.FromFn.{length-map-range_with_len}
use Rattle.topos_model.specs.types.Types.{Presheaf}
use Rattle.topos_model.specs.Laws.{size}
use Rattle.natural_maps.specs.Room.{sized_cells}
use Rattle.natural_maps.proofs.CellSums.{cells_by_sizes, sizes_are, sizes_over}
use Rattle.finite_limits.specs.Pairs.{seconds, first_parts, second_parts, start_rows, place_rows, pair_presheaf}
use Rattle.finite_limits.specs.Matches.{match_fibres, match_places, match_sizes}
use Rattle.finite_limits.proofs.PullbackPairs.{pair_pullback, pullback_over, matches_few, made_paired, made_few, made_sizes, made_pullback}
use Rattle.finite_limits.proofs.matches.pullback.Goals as goal

pub sizes_within-requires-clause-objects : goal.sizes_within-requires-clause-objects
sizes_within-requires-clause-objects c =
    ap length (c.as_slice.ensures ∙ c.in_ok-counts.ensures.counts)
    ∙ length-map-range_with_len (λ d. length (seconds (match_fibres c.args.m.now c.args.n.now d) (size c.args.x.now d))) 0 c.args.cat.now.objects

pub returns-in-None-clause-over : goal.returns-in-None-clause-over
returns-in-None-clause-over c =
    let r = c.requires in
    pullback_over c.args.cat.now c.sizes_within.ensures.lawful c.args.x.now c.args.y.now c.args.z.now r.left r.right c.args.m.now c.args.n.now r.first r.second c.args.room
    (subst (λ (s : List ℕ). c.args.room < sized_cells c.args.cat.now s) (c.as_slice.ensures ∙ c.in_ok-counts.ensures.counts)
    (sizes_over c.args.cat.now c.as_slice.result.now c.args.room c.in_ok-sizes_within.field-0 c.in-None.is c.in_ok-sizes_within.ensures.sizes))

pub returns-in-None-clause-exists : goal.returns-in-None-clause-exists
returns-in-None-clause-exists c =
    let k = c.args.cat.now in
    let X = c.args.x.now in
    let Y = c.args.y.now in
    let m = c.args.m.now in
    let n = c.args.n.now in
    let r = c.requires in (
      pair_presheaf k X Y (first_parts k X (match_fibres m n)) (second_parts k X (match_fibres m n)) (start_rows k X (match_fibres m n)) (place_rows k (match_places n)),
      first_parts k X (match_fibres m n),
      second_parts k X (match_fibres m n),
      pair_pullback k c.sizes_within.ensures.lawful X Y c.args.z.now r.left r.right m n r.first r.second,
    )

pub matches-requires-clause-few : goal.matches-requires-clause-few
matches-requires-clause-few c =
    let sizes = sizes_are c.args.cat.now c.as_slice.result.now c.args.room c.in_ok-sizes_within.field-0 c.in-Some.sizes c.in-Some.is c.in_ok-sizes_within.ensures.sizes in
    matches_few c.args.cat.now c.args.x.now c.args.m.now c.args.n.now c.args.room c.requires.room
    (subst (λ (s : List ℕ). sized_cells c.args.cat.now s ≤ c.args.room) (c.as_slice.ensures ∙ c.in_ok-counts.ensures.counts) sizes.1)

pub paired-requires-clause-paired : goal.paired-requires-clause-paired
paired-requires-clause-paired c =
    let r = c.requires in
    let made = c.in_ok-pairs-in-Some in
    made_paired c.args.cat.now c.sizes_within.ensures.lawful c.args.x.now c.args.y.now c.args.z.now r.left r.right c.args.m.now c.args.n.now r.first r.second
    made.pairs.first made.pairs.second made.pairs.starts made.pairs.places made.ensures.first made.ensures.second made.ensures.starts (made.ensures.places ∙ c.in_ok-counts.ensures.places)

pub paired-requires-clause-few : goal.paired-requires-clause-few
paired-requires-clause-few c =
    let r = c.requires in
    let sizes = sizes_are c.args.cat.now c.as_slice.result.now c.args.room c.in_ok-sizes_within.field-0 c.in-Some.sizes c.in-Some.is c.in_ok-sizes_within.ensures.sizes in
    let made = c.in_ok-pairs-in-Some in
    made_few c.args.cat.now c.sizes_within.ensures.lawful c.args.x.now c.args.y.now c.args.z.now r.left r.right c.args.m.now c.args.n.now r.first r.second
    made.pairs.first made.pairs.second made.pairs.starts made.pairs.places made.ensures.first made.ensures.second made.ensures.starts (made.ensures.places ∙ c.in_ok-counts.ensures.places)
    c.args.room r.room (subst (λ (s : List ℕ). sized_cells c.args.cat.now s ≤ c.args.room) (c.as_slice.ensures ∙ c.in_ok-counts.ensures.counts) sizes.1)

pub paired-requires-clause-sizes : goal.paired-requires-clause-sizes
paired-requires-clause-sizes c =
    let r = c.requires in
    let sizes = sizes_are c.args.cat.now c.as_slice.result.now c.args.room c.in_ok-sizes_within.field-0 c.in-Some.sizes c.in-Some.is c.in_ok-sizes_within.ensures.sizes in
    let made = c.in_ok-pairs-in-Some in
    sizes.0 ∙ c.as_slice.ensures ∙ c.in_ok-counts.ensures.counts
    ∙ made_sizes c.args.cat.now c.sizes_within.ensures.lawful c.args.x.now c.args.y.now c.args.z.now r.left r.right c.args.m.now c.args.n.now r.first r.second
    made.pairs.first made.pairs.second made.pairs.starts made.pairs.places made.ensures.first made.ensures.second made.ensures.starts (made.ensures.places ∙ c.in_ok-counts.ensures.places)

pub returns-clause-pullback : goal.returns-clause-pullback
returns-clause-pullback c =
    let r = c.requires in
    let made = c.in_ok-pairs-in-Some in
    let done = c.in_ok-functor-in-Some in
    made_pullback c.args.cat.now c.sizes_within.ensures.lawful c.args.x.now c.args.y.now c.args.z.now r.left r.right c.args.m.now c.args.n.now r.first r.second
    made.pairs.first made.pairs.second made.pairs.starts made.pairs.places made.ensures.first made.ensures.second made.ensures.starts (made.ensures.places ∙ c.in_ok-counts.ensures.places)
    done.functor done.first done.second done.ensures.functor done.ensures.first done.ensures.second

pub returns-clause-room : goal.returns-clause-room
returns-clause-room c =
    let r = c.requires in
    let sizes = sizes_are c.args.cat.now c.as_slice.result.now c.args.room c.in_ok-sizes_within.field-0 c.in-Some.sizes c.in-Some.is c.in_ok-sizes_within.ensures.sizes in
    let made = c.in_ok-pairs-in-Some in
    let done = c.in_ok-functor-in-Some in
    let are : match_sizes c.args.cat.now c.args.x.now c.args.m.now c.args.n.now ≡ _ =
    made_sizes c.args.cat.now c.sizes_within.ensures.lawful c.args.x.now c.args.y.now c.args.z.now r.left r.right c.args.m.now c.args.n.now r.first r.second
    made.pairs.first made.pairs.second made.pairs.starts made.pairs.places made.ensures.first made.ensures.second made.ensures.starts (made.ensures.places ∙ c.in_ok-counts.ensures.places) in
    subst (λ (n : ℕ). n ≤ c.args.room)
    (sym (cells_by_sizes c.args.cat.now done.functor ∙ ap (λ (Z : Presheaf). sized_cells c.args.cat.now Z.sizes) done.ensures.functor ∙ ap (sized_cells c.args.cat.now) (sym are)))
    (subst (λ (s : List ℕ). sized_cells c.args.cat.now s ≤ c.args.room) (c.as_slice.ensures ∙ c.in_ok-counts.ensures.counts) sizes.1)
