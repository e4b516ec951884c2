use Rattle.std.proofs.Common.{◌≡◌, ℕ, ◌+◌, ◌<◌, ◌≤◌, length, get_or, take, refl, sym, ap, subst, ◌∙◌, arith}
use Rattle.std.proofs.lemmas.List.{length-set, take_all}
use Rattle.finite_lists.specs.Members.{In}
use Rattle.topos_model.specs.categories.Category.{dom}
use Rattle.topos_model.proofs.ArrowsInto.{In-into, In-into_from}
use Rattle.finite_lists.proofs.Lists.{In_at}
use Rattle.place_closures.specs.Pairs.{pairs}
use Rattle.place_closures.proofs.PairNumbers.{total}
use Rattle.place_closures.proofs.PairRows.{pairs-total, total_more, total_within, starts_more}
use Rattle.place_closures.proofs.tables.pair_starts.Goals as goal

pub overflow_add-before : goal.overflow_add-before
overflow_add-before g c =
    let k = c.args.cat.now in
    let count : ℕ → ℕ = λ f. g.X.Elements.size c.args.x.now (dom k f) in
    let items = c.arrows_into-f-items.result.now in
    let more = total_more count items c.loop-f.f-index c.loop-f-test.true in
    let e : c.count-before.result ≡ count (get_or items c.loop-f.f-index 0) = c.count-before.ensures ∙ ap (g.X.Elements.size c.args.x.now) c.dom.ensures.value in
    let all : length (pairs k (g.X.Elements.size c.args.x.now) (g.X.Elements.restriction c.args.x.now) c.args.c) ≡ total count items =
    pairs-total k (g.X.Elements.size c.args.x.now) (g.X.Elements.restriction c.args.x.now) c.args.c ∙ ap (total count) (sym c.arrows_into-f-items.ensures.value) in
    omega (arith, more, e, all, c.loop-f.invariant.before_is, total_within count items (c.loop-f.f-index + 1), c.requires.few)

pub loop-f-preserved : goal.loop-f-preserved
loop-f-preserved g c =
    let k = c.args.cat.now in
    let size = g.X.Elements.size c.args.x.now in
    let move = g.X.Elements.restriction c.args.x.now in
    let count : ℕ → ℕ = λ f. size (dom k f) in
    let is = c.arrows_into-f-items.ensures.value in
    let items = c.arrows_into-f-items.result.now in
    let low : c.loop-f.f-index < length items = c.loop-f-test.true in
    let e : c.count-before.result ≡ count (get_or items c.loop-f.f-index 0) = c.count-before.ensures ∙ ap size c.dom.ensures.value in
    let i = c.loop-f.invariant in
    let arrow = In-into_from k c.args.c _ (subst (λ l. In l (get_or items c.loop-f.f-index 0)) is (In_at items c.loop-f.f-index 0 low)) in
    record {
      arrows = length-set c.loop-f.starts.items _ _ ∙ i.arrows;
      before_is = ap (λ n. n + c.count-before.result) i.before_is ∙ ap (λ n. total count (take c.loop-f.f-index items) + n) e ∙ sym (total_more count items c.loop-f.f-index low);
      done = λ f m.
          starts_more k size move c.args.c c.loop-f.starts.items _ c.loop-f.f-index c.loop-f.before (subst (λ l. c.loop-f.f-index < length l) is low)
          (subst (λ l. get_or l c.loop-f.f-index 0 < length c.loop-f.starts.items) is (let a = arrow.0 in omega (arith, a, i.arrows)))
          (i.before_is ∙ ap (λ l. total count (take c.loop-f.f-index l)) is)
          (ap (λ l. Rattle.std.proofs.Common.set c.loop-f.starts.items (get_or l c.loop-f.f-index 0) c.loop-f.before) is)
          (λ f m. i.done f (subst (λ l. In (take c.loop-f.f-index l) f) (sym is) m)) f (subst (λ l. In (take (c.loop-f.f-index + 1) l) f) is m);
    }

pub returns : goal.returns
returns g c =
    let k = c.args.cat.now in
    let items = c.arrows_into-f-items.result.now in
    let i = c.loop-f.invariant in
    record {
      starts = record {
        arrows = i.arrows;
        starts_at = λ f a.
            i.done f (subst (λ l. In l f) (sym (take_all c.loop-f.f-index items (omega (arith, c.loop-f-test.false)))) (subst (λ l. In l f) (sym c.arrows_into-f-items.ensures.value) (In-into k c.args.c f a)));
      };
    }
