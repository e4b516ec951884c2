use Rattle.std.proofs.Common.{◌≡◌, ◌<◌, ◌++◌, ◌∷◌, [], ℕ, List, map, length, get_or, refl, sym, ap, ◌∙◌, subst, arith}
use Rattle.std.specs.List.{range_with_len}
use Rattle.std.proofs.lemmas.List.FromFn.{map-range_with_len_more}
use Rattle.std.proofs.lemmas.Option.{get_or_from_slice_get}
use Rattle.topos_model.specs.categories.Category.{dom, cod}
use Rattle.topos_model.specs.Laws.{size, act}
use Rattle.topos_model.specs.presheaves.Maps.{component, apply}
use Rattle.finite_limits.specs.Parts.{part_row}
use Rattle.finite_limits.proofs.kept.part_restrictions.Goals as goal

pub restricted-requires-clause-elements : goal.restricted-requires-clause-elements
restricted-requires-clause-elements c = λ t h.
    let f : ℕ = c.loop-f.f in
    let low : c.loop-f.f < length c.args.cat.now.ends = omega (arith, c.loop-f-test.true, c.arrows-f-end.ensures.count) in
    let from : c.as_slice-from.result.now ≡ component c.args.elements.now (cod c.args.cat.now f) =
    c.as_slice-from.ensures ∙ sym (get_or_from_slice_get c.args.elements.now c.cod.result c.get.result.now [] c.get.ensures) ∙ ap (λ (d : ℕ). component c.args.elements.now d) c.cod.ensures.value in
    let total : length c.row.result.now ≡ size c.args.x.now (cod c.args.cat.now f) = ap length c.row.ensures ∙ c.requires.functor.total (cod c.args.cat.now f) f (low, refl) in
    let object : cod c.args.cat.now f < c.args.cat.now.objects = subst (λ (d : ℕ). d < c.args.cat.now.objects) c.cod.ensures.value c.cod.ensures.object in
    let member = c.requires.part.within (cod c.args.cat.now f) t object (subst (λ (s : List ℕ). t < length s) from h) in
    subst (λ (s : List ℕ). get_or s t 0 < length c.row.result.now) (sym from) (subst (λ (n : ℕ). get_or (component c.args.elements.now (cod c.args.cat.now f)) t 0 < n) (sym total) member)

pub restricted-requires-clause-within : goal.restricted-requires-clause-within
restricted-requires-clause-within c = λ y h.
    let f : ℕ = c.loop-f.f in
    let low : c.loop-f.f < length c.args.cat.now.ends = omega (arith, c.loop-f-test.true, c.arrows-f-end.ensures.count) in
    let to : c.as_slice-to.result.now ≡ component c.args.ranks.now (dom c.args.cat.now f) =
    c.as_slice-to.ensures ∙ sym (get_or_from_slice_get c.args.ranks.now c.dom.result c.get-in-loop-f.result.now [] c.get-in-loop-f.ensures) ∙ ap (λ (d : ℕ). component c.args.ranks.now d) c.dom.ensures.value in
    let total : length c.row.result.now ≡ size c.args.x.now (cod c.args.cat.now f) = ap length c.row.ensures ∙ c.requires.functor.total (cod c.args.cat.now f) f (low, refl) in
    let object : dom c.args.cat.now f < c.args.cat.now.objects = subst (λ (d : ℕ). d < c.args.cat.now.objects) c.dom.ensures.value c.dom.ensures.object in
    let count : length c.as_slice-to.result.now ≡ size c.args.x.now (dom c.args.cat.now f) = ap length to ∙ c.requires.part.table (dom c.args.cat.now f) object in
    let within = c.requires.functor.within (cod c.args.cat.now f) f y (low, refl) (subst (λ (n : ℕ). y < n) total h) in
    subst (λ (s : List ℕ). get_or s y 0 < length c.as_slice-to.result.now) (sym c.row.ensures) (subst (λ (n : ℕ). act c.args.x.now f y < n) (sym count) within)

pub loop-f-preserved : goal.loop-f-preserved
loop-f-preserved c =
    let f : ℕ = c.loop-f.f in
    let value = part_row c.args.cat.now c.args.x.now c.args.elements.now c.args.ranks.now in
    let from : c.as_slice-from.result.now ≡ component c.args.elements.now (cod c.args.cat.now f) =
    c.as_slice-from.ensures ∙ sym (get_or_from_slice_get c.args.elements.now c.cod.result c.get.result.now [] c.get.ensures) ∙ ap (λ (d : ℕ). component c.args.elements.now d) c.cod.ensures.value in
    let to : c.as_slice-to.result.now ≡ component c.args.ranks.now (dom c.args.cat.now f) =
    c.as_slice-to.ensures ∙ sym (get_or_from_slice_get c.args.ranks.now c.dom.result c.get-in-loop-f.result.now [] c.get-in-loop-f.ensures) ∙ ap (λ (d : ℕ). component c.args.ranks.now d) c.dom.ensures.value in
    let is : c.in_ok-restricted.field-0 ≡ value f =
    c.in_ok-restricted.ensures
    ∙ ap (λ (s : List ℕ). map (λ y. get_or c.as_slice-to.result.now (get_or s y 0) 0) c.as_slice-from.result.now) c.row.ensures
    ∙ ap (λ (s : List ℕ). map (λ y. get_or s (act c.args.x.now f y) 0) c.as_slice-from.result.now) to
    ∙ ap (map (λ y. apply c.args.ranks.now (dom c.args.cat.now f) (act c.args.x.now f y))) from in
    c.in_ok-push.ensures.ok
    ∙ ap (λ (rows : List (List ℕ)). rows ++ c.in_ok-restricted.field-0 ∷ []) c.loop-f.invariant
    ∙ ap (λ (row : List ℕ). map value (range_with_len 0 f) ++ row ∷ []) is
    ∙ sym (map-range_with_len_more value 0 f f (omega arith))
