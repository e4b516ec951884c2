use Rattle.std.proofs.Common.{◌≡◌, ◌<◌, ◌++◌, ◌∷◌, [], ℕ, List, map, length, sym, ap, ◌∙◌, arith}
use Rattle.std.specs.List.{range_with_len}
use Rattle.std.proofs.lemmas.List.FromFn.{length-map-range_with_len, map-range_with_len_more}
use Rattle.topos_model.specs.Laws.{size}
use Rattle.topos_model.specs.presheaves.Maps.{component}
use Rattle.finite_limits.specs.Pairs.{seconds}
use Rattle.finite_limits.specs.Matches.{with_value, places_by_value, value_counts, match_fibres, match_places}
use Rattle.finite_limits.proofs.Threads.{pairs_summed}
use Rattle.finite_limits.proofs.PullbackPairs.{values_within, counted_moved}
use Rattle.finite_limits.proofs.matches.counted_rows.Goals as goal

pub counted-requires-clause-within : goal.counted-requires-clause-within
counted-requires-clause-within c =
    let object : c.loop-c.c < c.args.cat.now.objects = omega (arith, c.loop-c-test.true, c.objects-c-end.ensures.count) in
    values_within c.args.cat.now c.args.y.now c.args.z.now c.args.n.now c.requires.second c.loop-c.c object c.row.result.now c.size-in-loop-c.result c.row.ensures c.size-in-loop-c.ensures

pub pair_count-requires-clause-within : goal.pair_count-requires-clause-within
pair_count-requires-clause-within c =
    let object : c.loop-c.c < c.args.cat.now.objects = omega (arith, c.loop-c-test.true, c.objects-c-end.ensures.count) in
    let many : length c.deref.result.now ≡ size c.args.z.now c.loop-c.c =
    ap length (c.deref.ensures.value ∙ c.in_ok-place.ensures.counts) ∙ length-map-range_with_len (λ v. length (with_value c.row.result.now v)) 0 c.size-in-loop-c.result ∙ c.size-in-loop-c.ensures in
    values_within c.args.cat.now c.args.x.now c.args.z.now c.args.m.now c.requires.first c.loop-c.c object c.row-in-loop-c.result.now (length c.deref.result.now) c.row-in-loop-c.ensures many

pub loop-c-preserved : goal.loop-c-preserved
loop-c-preserved c =
    let d : ℕ = c.loop-c.c in
    let m = c.args.m.now in
    let n = c.args.n.now in
    let object : c.loop-c.c < c.args.cat.now.objects = omega (arith, c.loop-c-test.true, c.objects-c-end.ensures.count) in
    let count : ℕ → ℕ = λ e. length (seconds (match_fibres m n e) (size c.args.x.now e)) in
    let is : c.pair_count.result ≡ count d =
    c.pair_count.ensures
    ∙ counted_moved c.row-in-loop-c.result.now c.deref.result.now c.size-in-loop-c-2.result (component m d) (value_counts (component n d) (size c.args.z.now d)) (size c.args.x.now d)
    c.row-in-loop-c.ensures (c.deref.ensures.value ∙ c.in_ok-place.ensures.counts ∙ ap (λ (s : List ℕ). value_counts s c.size-in-loop-c.result) c.row.ensures ∙ ap (value_counts (component n d)) c.size-in-loop-c.ensures)
    c.size-in-loop-c-2.ensures
    ∙ pairs_summed (component m d) (component n d) (size c.args.z.now d) (size c.args.x.now d) (λ x l. c.requires.first.within d x object l) in
    record {
      counts =
          c.in_ok-push.ensures.ok ∙ ap (λ (row : List ℕ). row ++ c.pair_count.result ∷ []) c.loop-c.invariant.counts
          ∙ ap (λ (k : ℕ). map count (range_with_len 0 d) ++ k ∷ []) is ∙ sym (map-range_with_len_more count 0 d d (omega arith));
      places =
          c.in_ok-push-2.ensures.ok ∙ ap (λ (rows : List (List ℕ)). rows ++ c.in_ok-place.place ∷ []) c.loop-c.invariant.places
          ∙ ap (λ (row : List ℕ). map (match_places n) (range_with_len 0 d) ++ row ∷ []) (c.in_ok-place.ensures.places ∙ ap places_by_value c.row.ensures)
          ∙ sym (map-range_with_len_more (match_places n) 0 d d (omega arith));
    }
