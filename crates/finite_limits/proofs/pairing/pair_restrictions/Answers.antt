use Rattle.std.proofs.Common.{◌≡◌, ◌<◌, ◌++◌, ◌∷◌, [], ℕ, List, map, length, refl, sym, ap, ◌∙◌, arith}
use Rattle.std.specs.List.{range_with_len}
use Rattle.std.proofs.lemmas.List.FromFn.{map-range_with_len_more}
use Rattle.std.proofs.lemmas.Option.{get_or_from_slice_get}
use Rattle.topos_model.specs.categories.Category.{cod}
use Rattle.topos_model.specs.presheaves.Maps.{component}
use Rattle.finite_limits.specs.Pairs.{pair_row}
use Rattle.finite_limits.proofs.PairPresheaf.{pairs_restricted, restricted_moved, row_moved}
use Rattle.finite_limits.proofs.pairing.pair_restrictions.Goals as goal

pub restricted-requires : goal.restricted-requires
restricted-requires c =
    let k = c.args.cat.now in
    let pairs = c.args.pairs.now in
    let r = c.requires in
    let f : ℕ = c.loop-f.f in
    let low : c.loop-f.f < length c.args.cat.now.ends = omega (arith, c.loop-f-test.true, c.arrows-f-end.ensures.count) in
    restricted_moved _ _ _ _ _ _ c.as_slice-first.result.now c.as_slice-second.result.now c.row.result.now c.row-in-loop-f.result.now c.as_slice-starts.result.now c.as_slice-places.result.now
    (c.as_slice-first.ensures ∙ sym (get_or_from_slice_get pairs.first c.cod-from.result c.get.result.now [] c.get.ensures) ∙ ap (component pairs.first) c.cod-from.ensures.value)
    (c.as_slice-second.ensures ∙ sym (get_or_from_slice_get pairs.second c.cod-from.result c.get-in-loop-f.result.now [] c.get-in-loop-f.ensures) ∙ ap (component pairs.second) c.cod-from.ensures.value)
    c.row.ensures c.row-in-loop-f.ensures
    (c.as_slice-starts.ensures ∙ sym (get_or_from_slice_get pairs.starts c.dom-to.result c.get-in-loop-f-2.result.now [] c.get-in-loop-f-2.ensures) ∙ ap (component pairs.starts) c.dom-to.ensures.value)
    (c.as_slice-places.ensures ∙ sym (get_or_from_slice_get pairs.places c.dom-to.result c.get-in-loop-f-3.result.now [] c.get-in-loop-f-3.ensures) ∙ ap (component pairs.places) c.dom-to.ensures.value)
    (pairs_restricted k c.arrows-f-end.ensures.lawful c.args.x.now c.args.y.now r.first r.second pairs.first pairs.second pairs.starts pairs.places r.paired r.few (cod k f) f (low, refl))

pub loop-f-preserved : goal.loop-f-preserved
loop-f-preserved c =
    let pairs = c.args.pairs.now in
    let f : ℕ = c.loop-f.f in
    let value = pair_row c.args.cat.now c.args.x.now c.args.y.now pairs.first pairs.second pairs.starts pairs.places in
    let is : c.in_ok-restricted.field-0 ≡ value f =
    c.in_ok-restricted.ensures
    ∙ row_moved _ _ _ _ _ _ c.as_slice-first.result.now c.as_slice-second.result.now c.row.result.now c.row-in-loop-f.result.now c.as_slice-starts.result.now c.as_slice-places.result.now
    (c.as_slice-first.ensures ∙ sym (get_or_from_slice_get pairs.first c.cod-from.result c.get.result.now [] c.get.ensures) ∙ ap (component pairs.first) c.cod-from.ensures.value)
    (c.as_slice-second.ensures ∙ sym (get_or_from_slice_get pairs.second c.cod-from.result c.get-in-loop-f.result.now [] c.get-in-loop-f.ensures) ∙ ap (component pairs.second) c.cod-from.ensures.value)
    c.row.ensures c.row-in-loop-f.ensures
    (c.as_slice-starts.ensures ∙ sym (get_or_from_slice_get pairs.starts c.dom-to.result c.get-in-loop-f-2.result.now [] c.get-in-loop-f-2.ensures) ∙ ap (component pairs.starts) c.dom-to.ensures.value)
    (c.as_slice-places.ensures ∙ sym (get_or_from_slice_get pairs.places c.dom-to.result c.get-in-loop-f-3.result.now [] c.get-in-loop-f-3.ensures) ∙ ap (component pairs.places) c.dom-to.ensures.value) in
    c.in_ok-push.ensures.ok
    ∙ ap (λ (rows : List (List ℕ)). rows ++ c.in_ok-restricted.field-0 ∷ []) c.loop-f.invariant
    ∙ ap (λ (row : List ℕ). map value (range_with_len 0 f) ++ row ∷ []) is
    ∙ sym (map-range_with_len_more value 0 f f (omega arith))
