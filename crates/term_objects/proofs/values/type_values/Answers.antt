use Rattle.std.proofs.Common.{◌≡◌, ◌<◌, [], get_or, map, length, sym, ap, subst, ◌∙◌, arith}
use Rattle.std.proofs.lemmas.List.{get_or_default}
use Rattle.finite_lists.specs.Members.{In}
use Rattle.topos_model.specs.declared.value.Val.{Star}
use Rattle.topos_model.specs.topologies.Cover.{Site}
use Rattle.topos_model.specs.types.Types.{elements}
use Rattle.truth_tables.proofs.Rows.{row-more}
use Rattle.element_values.specs.declared.elements.Elements.{Elements}
use Rattle.term_objects.proofs.ReadElements.{knows, element_known}
use Rattle.term_objects.proofs.values.type_values.Goals as goal

pub values_at-requires : goal.values_at-requires
values_at-requires c =
    let w = c.args.world.now in
    let numbers = c.args.numbers.now in
    let objects : c.objects-objects.result ≡ w.site.category.objects = c.objects-objects.ensures.count ∙ ap (λ k. k.objects) c.cat.ensures ∙ ap (λ (s : Site). s.category.objects) c.site-site.ensures in
    let low : c.loop-c.c < length numbers = omega (arith, c.loop-c-test.true, objects, c.requires.objects) in
    let here : get_or numbers c.loop-c.c [] ≡ c.as_slice.result.now = get_or_default numbers c.loop-c.c [] c.index-numbers-c.result low ∙ sym c.index-numbers-c.is ∙ sym c.as_slice.ensures in
    record {
      known = (
        w.functors,
        λ x i.
            element_known w (record { site = c.site-site.result; store = c.store.result; omega = c.truth_values.result }) c.site-site.ensures c.store.ensures.store c.args.ty.now c.requires.named c.requires.counted
            c.truth_values.ensures.lawful c.truth_values.ensures.counted c.loop-c.c x (omega (arith, c.loop-c-test.true, objects)) (c.requires.elements c.loop-c.c x low (subst (λ l. In l x) (sym here) i)),
      );
    }

pub loop-c-preserved : goal.loop-c-preserved
loop-c-preserved c =
    let w = c.args.world.now in
    let numbers = c.args.numbers.now in
    let objects : c.objects-objects.result ≡ w.site.category.objects = c.objects-objects.ensures.count ∙ ap (λ k. k.objects) c.cat.ensures ∙ ap (λ (s : Site). s.category.objects) c.site-site.ensures in
    let low : c.loop-c.c < length numbers = omega (arith, c.loop-c-test.true, objects, c.requires.objects) in
    let here : get_or numbers c.loop-c.c [] ≡ c.as_slice.result.now = get_or_default numbers c.loop-c.c [] c.index-numbers-c.result low ∙ sym c.index-numbers-c.is ∙ sym c.as_slice.ensures in
    let read : Elements = record { site = c.site-site.result; store = c.store.result; omega = c.truth_values.result } in
    row-more (λ d. map (λ x. get_or (elements w.site w.functors c.args.ty.now d) x Star) (get_or numbers d [])) c.loop-c.c c.loop-c.values _ c.in_ok-values_at.field-0 c.loop-c.invariant c.in_ok-push.ensures.ok
    (c.in_ok-values_at.ensures w.functors (knows w read c.site-site.ensures c.store.ensures.store)
    ∙ ap (λ (s : Site). map (λ x. get_or (elements s w.functors c.args.ty.now c.loop-c.c) x Star) c.as_slice.result.now) c.site-site.ensures
    ∙ ap (map (λ x. get_or (elements w.site w.functors c.args.ty.now c.loop-c.c) x Star)) (sym here))
