use Rattle.std.proofs.Common.{◌≡◌, ◌++◌, ◌∷◌, [], List, map, sym, ap, ◌∙◌, arith}
use Rattle.std.specs.List.{range_with_len}
use Rattle.std.proofs.lemmas.List.{append_assoc}
use Rattle.std.proofs.lemmas.List.FromFn.{map-range_with_len_more}
use Rattle.sealed_types.specs.Sealed.{sizes_in}
use Rattle.element_values.specs.declared.places.Place.{Place}
use Rattle.element_values.specs.Places.{spot, places_over}
use Rattle.element_values.proofs.places.push_over.Goals as goal

pub loop-w-preserved : goal.loop-w-preserved
loop-w-preserved c =
    let row = spot c.args.f in
    c.in_ok-push.ensures.ok ∙ ap (λ (l : List Place). l ++ row c.loop-w.w ∷ []) c.loop-w.invariant
    ∙ append_assoc c.args.places.now (map row (range_with_len 0 c.loop-w.w)) (row c.loop-w.w ∷ [])
    ∙ ap (λ l. c.args.places.now ++ l) (sym (map-range_with_len_more row 0 c.loop-w.w c.loop-w.w (omega arith)))

pub returns : goal.returns
unfolding places_over
returns c =
    let size = sizes_in c.args.store.now c.args.of in
    c.loop-w.invariant
    ∙ ap (λ n. c.args.places.now ++ map (spot c.args.f) (range_with_len 0 n))
    ((let e : c.loop-w.w ≡ c.count-w-end.result = omega (arith, c.loop-w-test.false, c.loop-w.auto) in e) ∙ c.count-w-end.ensures.elements ∙ ap size c.dom.ensures.value)
