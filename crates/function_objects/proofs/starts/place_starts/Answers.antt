use Rattle.std.proofs.Common.{◌≡◌, ℕ, ◌+◌, ◌*◌, ◌<◌, ◌≤◌, length, get_or, take, sym, ap, subst, ◌∙◌, arith}
use Rattle.std.proofs.lemmas.List.{length-set, take_all}
use Rattle.finite_lists.specs.Members.{In}
use Rattle.finite_lists.proofs.Lists.{In_at}
use Rattle.topos_model.specs.categories.Category.{dom}
use Rattle.topos_model.proofs.ArrowsInto.{In-into, In-into_from}
use Rattle.place_closures.proofs.PairNumbers.{total}
use Rattle.place_closures.proofs.PairRows.{pairs-total, total_more, starts_more}
use Rattle.sealed_types.specs.Sealed.{sizes_in, restrictions_in}
use Rattle.function_objects.proofs.starts.place_starts.Goals as goal

pub loop-f-preserved : goal.loop-f-preserved
loop-f-preserved c =
    let k = c.args.cat.now in
    let size = sizes_in c.args.store.now c.args.s in
    let move = restrictions_in c.args.store.now c.args.s in
    let count : ℕ → ℕ = λ f. size (dom k f) in
    let is = c.arrows_into-f-items.ensures.value in
    let items = c.arrows_into-f-items.result.now in
    let low : c.loop-f.f-index < length items = c.loop-f-test.true in
    let e : c.count.result ≡ count (get_or items c.loop-f.f-index 0) = c.count.ensures.elements ∙ ap size c.dom.ensures.value in
    let i = c.loop-f.invariant in
    let arrow = In-into_from k c.args.c _ (subst (λ l. In l (get_or items c.loop-f.f-index 0)) is (In_at items c.loop-f.f-index 0 low)) in
    record {
      arrows = length-set c.loop-f.starts.items _ _ ∙ i.arrows;
      before_is = ap (λ n. n + c.count.result) i.before_is ∙ ap (λ n. total count (take c.loop-f.f-index items) + n) e ∙ sym (total_more count items c.loop-f.f-index low);
      few = omega (arith, i.few, c.count.auto);
      done = λ f m.
          starts_more k size move c.args.c c.loop-f.starts.items _ c.loop-f.f-index c.loop-f.before (subst (λ l. c.loop-f.f-index < length l) is low)
          (subst (λ l. get_or l c.loop-f.f-index 0 < length c.loop-f.starts.items) is (let a = arrow.0 in omega (arith, a, i.arrows)))
          (i.before_is ∙ ap (λ l. total count (take c.loop-f.f-index l)) is)
          (ap (λ l. Rattle.std.proofs.Common.set c.loop-f.starts.items (get_or l c.loop-f.f-index 0) c.loop-f.before) is)
          (λ f m. i.done f (subst (λ l. In (take c.loop-f.f-index l) f) (sym is) m)) f (subst (λ l. In (take (c.loop-f.f-index + 1) l) f) is m);
    }

pub returns-clause-starts : goal.returns-clause-starts
returns-clause-starts c =
    let k = c.args.cat.now in
    let items = c.arrows_into-f-items.result.now in
    let i = c.loop-f.invariant in
    record {
      arrows = i.arrows;
      starts_at = λ f a.
          i.done f (subst (λ l. In l f) (sym (take_all c.loop-f.f-index items (omega (arith, c.loop-f-test.false)))) (subst (λ l. In l f) (sym c.arrows_into-f-items.ensures.value) (In-into k c.args.c f a)));
    }

pub returns-clause-few : goal.returns-clause-few
returns-clause-few c =
    let k = c.args.cat.now in
    let size = sizes_in c.args.store.now c.args.s in
    let move = restrictions_in c.args.store.now c.args.s in
    let items = c.arrows_into-f-items.result.now in
    let i = c.loop-f.invariant in
    let all = pairs-total k size move c.args.c ∙ ap (total (λ f. size (dom k f))) (sym c.arrows_into-f-items.ensures.value) in
    let here : c.loop-f.before ≡ total (λ f. size (dom k f)) items = i.before_is ∙ ap (total (λ f. size (dom k f))) (take_all c.loop-f.f-index items (omega (arith, c.loop-f-test.false))) in
    omega (arith, all, here, i.few, c.loop-f.auto.f-index-end, c.arrows_into-f-items.ensures.few)
