use Rattle.std.proofs.Common.{◌≡◌, ◌<◌, ◌+◌, ◌^◌, ◌++◌, ◌∷◌, [], ℕ, List, map, length, get_or, refl, sym, ap, ◌∙◌, subst, arith}
use Rattle.std.specs.List.{range_with_len}
use Rattle.std.proofs.lemmas.List.FromFn.{map-range_with_len_more}
use Rattle.topos_model.specs.categories.Category.{dom, cod}
use Rattle.topos_model.specs.Laws.{size, act}
use Rattle.finite_colimits.specs.Sums.{sum_row}
use Rattle.finite_colimits.proofs.sum.sum_restrictions.Goals as goal

pub appended-requires : goal.appended-requires
appended-requires c = record {
  small = λ i h.
      let f : ℕ = c.loop-f.f in
      let low : c.loop-f.f < length c.args.cat.now.ends = omega (arith, c.loop-f-test.true, c.arrows-f-end.ensures.count) in
      let total : length c.row-in-loop-f.result.now ≡ size c.args.y.now (cod c.args.cat.now f) = ap length c.row-in-loop-f.ensures ∙ c.requires.second.total (cod c.args.cat.now f) f (low, refl) in
      let within = c.requires.second.within (cod c.args.cat.now f) f i (low, refl) (subst (λ (n : ℕ). i < n) total h) in
      let object : dom c.args.cat.now f < c.args.cat.now.objects = subst (λ (d : ℕ). d < c.args.cat.now.objects) c.dom.ensures.value c.dom.ensures.object in
      let few : size c.args.x.now (dom c.args.cat.now f) + size c.args.y.now (dom c.args.cat.now f) < 2 ^ 32 = c.requires.few (dom c.args.cat.now f) object in
      let by : c.size.result ≡ size c.args.x.now (dom c.args.cat.now f) = c.size.ensures ∙ ap (λ (d : ℕ). size c.args.x.now d) c.dom.ensures.value in
      let entry : get_or c.row-in-loop-f.result.now i 0 ≡ act c.args.y.now f i = ap (λ (s : List ℕ). get_or s i 0) c.row-in-loop-f.ensures in
      omega (arith, within, few, by, entry);
}

pub loop-f-preserved : goal.loop-f-preserved
loop-f-preserved c =
    let f : ℕ = c.loop-f.f in
    let value = sum_row c.args.cat.now c.args.x.now c.args.y.now in
    let by : c.size.result ≡ size c.args.x.now (dom c.args.cat.now f) = c.size.ensures ∙ ap (λ (d : ℕ). size c.args.x.now d) c.dom.ensures.value in
    let is : c.in_ok-appended.field-0 ≡ value f =
    c.in_ok-appended.ensures
    ∙ ap (λ (s : List ℕ). s ++ map (λ y. c.size.result + y) c.row-in-loop-f.result.now) c.row.ensures
    ∙ ap (λ (s : List ℕ). get_or c.args.x.now.along f [] ++ map (λ y. c.size.result + y) s) c.row-in-loop-f.ensures
    ∙ ap (λ (n : ℕ). get_or c.args.x.now.along f [] ++ map (λ y. n + y) (get_or c.args.y.now.along f [])) by in
    c.in_ok-push.ensures.ok
    ∙ ap (λ (rows : List (List ℕ)). rows ++ c.in_ok-appended.field-0 ∷ []) c.loop-f.invariant
    ∙ ap (λ (row : List ℕ). map value (range_with_len 0 f) ++ row ∷ []) is
    ∙ sym (map-range_with_len_more value 0 f f (omega arith))
