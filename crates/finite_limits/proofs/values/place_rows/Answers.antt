use Rattle.std.proofs.Common.{◌≡◌, ◌<◌, ◌++◌, ◌∷◌, [], ℕ, List, map, length, get_or, sym, ap, ◌∙◌, subst, arith}
use Rattle.std.specs.List.{range_with_len}
use Rattle.std.proofs.lemmas.List.FromFn.{map-range_with_len_more}
use Rattle.std.proofs.lemmas.Option.{get_or_from_slice_get}
use Rattle.topos_model.specs.presheaves.Maps.{component, apply, after_component}
use Rattle.finite_limits.proofs.values.place_rows.Goals as goal

pub places-requires : goal.places-requires
places-requires c = λ x h.
    let object : c.loop-c.c < c.args.cat.now.objects = omega (arith, c.loop-c-test.true, c.objects-c-end.ensures.count) in
    let ranks : c.as_slice-rank.result.now ≡ component c.args.ranks.now c.loop-c.c =
    c.as_slice-rank.ensures ∙ sym (get_or_from_slice_get c.args.ranks.now c.loop-c.c c.get.result.now [] c.get.ensures) in
    subst (λ (s : List ℕ). get_or s x 0 < length c.as_slice-rank.result.now) (sym c.row.ensures)
    (subst (λ (s : List ℕ). apply c.args.m.now c.loop-c.c x < length s) (sym ranks)
    (c.requires.within c.loop-c.c x object (subst (λ (s : List ℕ). x < length s) c.row.ensures h)))

pub loop-c-preserved : goal.loop-c-preserved
loop-c-preserved c =
    let value : ℕ → List ℕ = λ d. after_component (component c.args.ranks.now d) (component c.args.m.now d) in
    let ranks : c.as_slice-rank.result.now ≡ component c.args.ranks.now c.loop-c.c =
    c.as_slice-rank.ensures ∙ sym (get_or_from_slice_get c.args.ranks.now c.loop-c.c c.get.result.now [] c.get.ensures) in
    let is : c.in_ok-places.field-0 ≡ value c.loop-c.c =
    c.in_ok-places.ensures ∙ ap (λ (s : List ℕ). after_component s c.row.result.now) ranks ∙ ap (after_component (component c.args.ranks.now c.loop-c.c)) c.row.ensures in
    c.in_ok-push.ensures.ok
    ∙ ap (λ (rows : List (List ℕ)). rows ++ c.in_ok-places.field-0 ∷ []) c.loop-c.invariant
    ∙ ap (λ (row : List ℕ). map value (range_with_len 0 c.loop-c.c) ++ row ∷ []) is
    ∙ sym (map-range_with_len_more value 0 c.loop-c.c c.loop-c.c (omega arith))
