use Rattle.std.proofs.Common.{◌≡◌, length, map, sym, subst, ap, ◌∙◌}
use Rattle.std.proofs.lemmas.Result.{IfOk-weaker}
use Rattle.finite_lists.specs.Members.{In}
use Rattle.topos_model.specs.declared.ty.Ty.{Pow}
use Rattle.topos_model.specs.declared.value.Val.{Sub}
use Rattle.topos_model.specs.Laws.{IsCategory}
use Rattle.functor_store.specs.Faithful.{Holds, Stands}
use Rattle.sealed_types.specs.Sealed.{sizes_in}
use Rattle.term_tables.specs.Parts.{IsSealed}
use Rattle.element_values.specs.Places.{places_at, marked, entry_at}
use Rattle.element_values.proofs.Parts.{itself, readable_of, marks_long, subset_places, subset_value}
use Rattle.element_values.proofs.places.members.Goals as goal

pub place_of-whole-requires : goal.place_of-whole-requires
place_of-whole-requires c =
    let (functors, h) = c.requires.element in
    record { held = subst (Holds c.args.elements.now.store.now) (sym c.requires.subset) (itself c.args.elements.now (Pow c.args.of.now) h.readable) }

pub place_of-part-requires : goal.place_of-part-requires
place_of-part-requires c =
    let (functors, h) = c.requires.element in
    record { held = subst (Holds c.args.elements.now.store.now) (sym c.get.ensures) (itself c.args.elements.now c.args.of.now (readable_of c.args.elements.now c.args.of.now h.readable)) }

pub marked-requires : goal.marked-requires
marked-requires c =
    let (functors, h) = c.requires.element in
    let e = c.args.elements.now in
    let laws : IsCategory e.site.now.category = subst (λ k. IsCategory k) c.cat-cat.ensures c.laws.ensures.lawful in
    let whole : IsSealed e.store.now (Pow c.args.of.now) c.place_of-whole.result = subst (λ T. IsSealed e.store.now T c.place_of-whole.result) c.requires.subset c.place_of-whole.ensures.place in
    let part : IsSealed e.store.now c.args.of.now c.place_of-part.result = subst (λ T. IsSealed e.store.now T c.place_of-part.result) c.get.ensures c.place_of-part.ensures.place in
    let places : c.as_slice.result.now ≡ places_at e.site.now.category (sizes_in e.store.now c.place_of-part.result) c.args.c =
    c.as_slice.ensures ∙ c.in_ok-places.ensures ∙ ap (λ k. places_at k (sizes_in e.store.now c.place_of-part.result) c.args.c) c.cat-cat.ensures in
    ap length c.element.ensures.row ∙ marks_long e laws c.args.of.now c.args.c c.args.k c.place_of-whole.result c.place_of-part.result whole part functors h ∙ sym (ap length places)

pub returns-clause-places : goal.returns-clause-places
returns-clause-places c =
    let (functors, h) = c.requires.element in
    let e = c.args.elements.now in
    let laws : IsCategory e.site.now.category = subst (λ k. IsCategory k) c.cat-cat.ensures c.laws.ensures.lawful in
    let whole : IsSealed e.store.now (Pow c.args.of.now) c.place_of-whole.result = subst (λ T. IsSealed e.store.now T c.place_of-whole.result) c.requires.subset c.place_of-whole.ensures.place in
    let part : IsSealed e.store.now c.args.of.now c.place_of-part.result = subst (λ T. IsSealed e.store.now T c.place_of-part.result) c.get.ensures c.place_of-part.ensures.place in
    let places : c.as_slice.result.now ≡ places_at e.site.now.category (sizes_in e.store.now c.place_of-part.result) c.args.c =
    c.as_slice.ensures ∙ c.in_ok-places.ensures ∙ ap (λ k. places_at k (sizes_in e.store.now c.place_of-part.result) c.args.c) c.cat-cat.ensures in
    let made = ap (λ ps. marked ps c.element.result.now) places ∙ ap (marked (places_at e.site.now.category (sizes_in e.store.now c.place_of-part.result) c.args.c)) c.element.ensures.row in
    IfOk-weaker c.marked.result _ _ (λ kept is p i. subset_places e laws c.args.of.now c.args.c c.args.k c.place_of-whole.result c.place_of-part.result whole part functors h p (subst (λ l. In l p) (is ∙ made) i)) c.marked.ensures

pub returns-clause-value : goal.returns-clause-value
returns-clause-value c =
    let (functors, h) = c.requires.element in
    let e = c.args.elements.now in
    let laws : IsCategory e.site.now.category = subst (λ k. IsCategory k) c.cat-cat.ensures c.laws.ensures.lawful in
    let whole : IsSealed e.store.now (Pow c.args.of.now) c.place_of-whole.result = subst (λ T. IsSealed e.store.now T c.place_of-whole.result) c.requires.subset c.place_of-whole.ensures.place in
    let part : IsSealed e.store.now c.args.of.now c.place_of-part.result = subst (λ T. IsSealed e.store.now T c.place_of-part.result) c.get.ensures c.place_of-part.ensures.place in
    let places : c.as_slice.result.now ≡ places_at e.site.now.category (sizes_in e.store.now c.place_of-part.result) c.args.c =
    c.as_slice.ensures ∙ c.in_ok-places.ensures ∙ ap (λ k. places_at k (sizes_in e.store.now c.place_of-part.result) c.args.c) c.cat-cat.ensures in
    let made = ap (λ ps. marked ps c.element.result.now) places ∙ ap (marked (places_at e.site.now.category (sizes_in e.store.now c.place_of-part.result) c.args.c)) c.element.ensures.row in
    IfOk-weaker c.marked.result _ _ (λ kept is functors' know.
    subst (λ l. Stands e.site.now functors' (Pow c.args.of.now) c.args.c c.args.k (Sub (map (entry_at e.site.now functors' c.args.of.now) l))) (sym (is ∙ made)) (subset_value e laws c.args.of.now c.args.c c.args.k c.place_of-whole.result c.place_of-part.result whole part functors functors' h know)) c.marked.ensures
