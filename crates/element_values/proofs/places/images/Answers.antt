use Rattle.std.proofs.Common.{◌≡◌, length, map, sym, subst, ap, ◌∙◌}
use Rattle.std.proofs.lemmas.Result.{IfOk-weaker}
use Rattle.finite_lists.specs.Members.{In}
use Rattle.topos_model.specs.declared.ty.Ty.{Fun}
use Rattle.topos_model.specs.declared.value.Val.{Fn}
use Rattle.topos_model.specs.Laws.{IsCategory}
use Rattle.functor_store.specs.Faithful.{Holds, Stands}
use Rattle.sealed_types.specs.Sealed.{sizes_in}
use Rattle.term_tables.specs.Parts.{IsSealed}
use Rattle.element_values.specs.Places.{places_at, imaged, assign_at}
use Rattle.element_values.proofs.Parts.{itself, readable_from, numbers_long, function_images, function_value}
use Rattle.element_values.proofs.places.images.Goals as goal

pub place_of-whole-requires : goal.place_of-whole-requires
place_of-whole-requires c =
    let (functors, h) = c.requires.element in
    record { held = subst (Holds c.args.elements.now.store.now) (sym c.requires.function) (itself c.args.elements.now (Fun c.args.from.now c.args.to.now) h.readable) }

pub place_of-domain-requires : goal.place_of-domain-requires
place_of-domain-requires c =
    let (functors, h) = c.requires.element in
    record { held = subst (Holds c.args.elements.now.store.now) (sym c.get.ensures) (itself c.args.elements.now c.args.from.now (readable_from c.args.elements.now c.args.from.now c.args.to.now h.readable)) }

pub imaged-requires : goal.imaged-requires
imaged-requires c =
    let (functors, h) = c.requires.element in
    let e = c.args.elements.now in
    let laws : IsCategory e.site.now.category = subst (λ k. IsCategory k) c.cat-cat.ensures c.laws.ensures.lawful in
    let whole : IsSealed e.store.now (Fun c.args.from.now c.args.to.now) c.place_of-whole.result = subst (λ T. IsSealed e.store.now T c.place_of-whole.result) c.requires.function c.place_of-whole.ensures.place in
    let domain : IsSealed e.store.now c.args.from.now c.place_of-domain.result = subst (λ T. IsSealed e.store.now T c.place_of-domain.result) c.get.ensures c.place_of-domain.ensures.place in
    let places : c.as_slice.result.now ≡ places_at e.site.now.category (sizes_in e.store.now c.place_of-domain.result) c.args.c =
    c.as_slice.ensures ∙ c.in_ok-places.ensures ∙ ap (λ k. places_at k (sizes_in e.store.now c.place_of-domain.result) c.args.c) c.cat-cat.ensures in
    ap length c.element.ensures.row ∙ numbers_long e laws c.args.from.now c.args.to.now c.args.c c.args.k c.place_of-whole.result c.place_of-domain.result whole domain functors h ∙ sym (ap length places)

pub returns-clause-images : goal.returns-clause-images
returns-clause-images c =
    let (functors, h) = c.requires.element in
    let e = c.args.elements.now in
    let laws : IsCategory e.site.now.category = subst (λ k. IsCategory k) c.cat-cat.ensures c.laws.ensures.lawful in
    let whole : IsSealed e.store.now (Fun c.args.from.now c.args.to.now) c.place_of-whole.result = subst (λ T. IsSealed e.store.now T c.place_of-whole.result) c.requires.function c.place_of-whole.ensures.place in
    let domain : IsSealed e.store.now c.args.from.now c.place_of-domain.result = subst (λ T. IsSealed e.store.now T c.place_of-domain.result) c.get.ensures c.place_of-domain.ensures.place in
    let places : c.as_slice.result.now ≡ places_at e.site.now.category (sizes_in e.store.now c.place_of-domain.result) c.args.c =
    c.as_slice.ensures ∙ c.in_ok-places.ensures ∙ ap (λ k. places_at k (sizes_in e.store.now c.place_of-domain.result) c.args.c) c.cat-cat.ensures in
    let made = ap (λ ps. imaged ps c.element.result.now) places ∙ ap (imaged (places_at e.site.now.category (sizes_in e.store.now c.place_of-domain.result) c.args.c)) c.element.ensures.row in
    IfOk-weaker c.imaged.result _ _ (λ kept is p i. function_images e laws c.args.from.now c.args.to.now c.args.c c.args.k c.place_of-whole.result c.place_of-domain.result whole domain functors h p (subst (λ l. In l p) (is ∙ made) i)) c.imaged.ensures

pub returns-clause-value : goal.returns-clause-value
returns-clause-value c =
    let (functors, h) = c.requires.element in
    let e = c.args.elements.now in
    let laws : IsCategory e.site.now.category = subst (λ k. IsCategory k) c.cat-cat.ensures c.laws.ensures.lawful in
    let whole : IsSealed e.store.now (Fun c.args.from.now c.args.to.now) c.place_of-whole.result = subst (λ T. IsSealed e.store.now T c.place_of-whole.result) c.requires.function c.place_of-whole.ensures.place in
    let domain : IsSealed e.store.now c.args.from.now c.place_of-domain.result = subst (λ T. IsSealed e.store.now T c.place_of-domain.result) c.get.ensures c.place_of-domain.ensures.place in
    let places : c.as_slice.result.now ≡ places_at e.site.now.category (sizes_in e.store.now c.place_of-domain.result) c.args.c =
    c.as_slice.ensures ∙ c.in_ok-places.ensures ∙ ap (λ k. places_at k (sizes_in e.store.now c.place_of-domain.result) c.args.c) c.cat-cat.ensures in
    let made = ap (λ ps. imaged ps c.element.result.now) places ∙ ap (imaged (places_at e.site.now.category (sizes_in e.store.now c.place_of-domain.result) c.args.c)) c.element.ensures.row in
    IfOk-weaker c.imaged.result _ _ (λ kept is functors' know.
    subst (λ l. Stands e.site.now functors' (Fun c.args.from.now c.args.to.now) c.args.c c.args.k (Fn (map (assign_at e.site.now functors' c.args.from.now c.args.to.now) l))) (sym (is ∙ made)) (function_value e laws c.args.from.now c.args.to.now c.args.c c.args.k c.place_of-whole.result c.place_of-domain.result whole domain functors functors' h know)) c.imaged.ensures
