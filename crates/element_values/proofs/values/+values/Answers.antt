use Rattle.std.proofs.Common.{rules, ◌<◌, length, get_or, sym, subst}
use Rattle.finite_lists.proofs.Lists.{In_at}
use Rattle.topos_model.specs.declared.ty.Ty.{the_lemmas, Base, One, Two}
use Rattle.topos_model.specs.declared.value.Val.{El, Star, Two as Pair}
use Rattle.functor_store.specs.Faithful.{Stands}
use Rattle.element_values.specs.Known.{IsElement, HasValue}
use Rattle.element_values.proofs.FormValues.{base_stands, one_stands}
use Rattle.element_values.proofs.Parts.{element_under, place_element}
use Rattle.element_values.proofs.values.+values.Goals as goal

pub element_value-returns-in-Base : goal.element_value-returns-in-Base
element_value-returns-in-Base t c =
    let (functors, h) = c.requires.element in
    let e = c.args.elements.now in
    let n = c.in-Base.field-0 in
    let here = subst (λ T. IsElement e functors T c.args.c c.args.k) c.in-Base.is h in
    record {
      value = λ functors' know.
          subst (λ T. Stands e.site.now functors' T c.args.c c.args.k (El c.args.k)) (sym c.in-Base.is)
          (base_stands e.site.now functors' c.args.c c.args.k n (element_under e functors functors' (Base n) c.args.c c.args.k here know).within);
    }

pub element_value-returns-in-One : goal.element_value-returns-in-One
element_value-returns-in-One t c =
    let (functors, h) = c.requires.element in
    let e = c.args.elements.now in
    let here = subst (λ T. IsElement e functors T c.args.c c.args.k) c.in-One.is h in
    record {
      value = λ functors' know.
          subst (λ T. Stands e.site.now functors' T c.args.c c.args.k Star) (sym c.in-One.is)
          (one_stands e.site.now functors' c.args.c c.args.k (element_under e functors functors' One c.args.c c.args.k here know).within);
    }

pub function-dom-source-requires : goal.function-dom-source-requires
function-dom-source-requires t c =
    let p = c.requires.images _ (In_at c.args.images.now c.loop-image.image-index _ c.loop-image-test.true) in
    subst (λ k. (get_or c.args.images.now c.loop-image.image-index record { arrow = 0; element = 0; value = 0 }).arrow < length k.ends) (sym c.cat-cat.ensures) p.arrow

pub function-part-requires : goal.function-part-requires
function-part-requires t c =
    let p = c.requires.images _ (In_at c.args.images.now c.loop-image.image-index _ c.loop-image-test.true) in
    let (functors, h) = p.element in
    (search (rules, the_lemmas), (functors, place_element _ functors _ _ c.dom-source.result _ _ c.cat-cat.ensures c.dom-source.ensures.value h))

pub function-part-requires-in-loop-image : goal.function-part-requires-in-loop-image
function-part-requires-in-loop-image t c =
    let p = c.requires.images _ (In_at c.args.images.now c.loop-image.image-index _ c.loop-image-test.true) in
    let (functors, h) = p.value in
    (search (rules, the_lemmas), (functors, place_element _ functors _ _ c.dom-source.result _ _ c.cat-cat.ensures c.dom-source.ensures.value h))

pub pair-returns : goal.pair-returns
pair-returns t c =
    let e = c.args.elements.now in
    let T = Two c.args.left.now c.args.right.now in
    record {
      value =
          subst (λ u. HasValue e T c.args.c c.args.k (Pair u c.in_ok-new-2.field-0)) (sym c.in_ok-new.ensures)
          (subst (λ v. HasValue e T c.args.c c.args.k (Pair c.in_ok-first.first v)) (sym c.in_ok-new-2.ensures)
          (c.part_numbers-i.ensures.value c.in_ok-first.first c.in_ok-second.second c.in_ok-first.ensures.value c.in_ok-second.ensures.value));
    }

pub subset-dom-requires : goal.subset-dom-requires
subset-dom-requires t c =
    let p = c.requires.places _ (In_at c.args.places.now c.loop-place.place-index _ c.loop-place-test.true) in
    subst (λ k. (get_or c.args.places.now c.loop-place.place-index record { arrow = 0; element = 0 }).arrow < length k.ends) (sym c.cat-cat.ensures) p.arrow

pub subset-part-requires : goal.subset-part-requires
subset-part-requires t c =
    let p = c.requires.places _ (In_at c.args.places.now c.loop-place.place-index _ c.loop-place-test.true) in
    let (functors, h) = p.element in
    (search (rules, the_lemmas), (functors, place_element _ functors _ _ c.dom.result _ _ c.cat-cat.ensures c.dom.ensures.value h))
