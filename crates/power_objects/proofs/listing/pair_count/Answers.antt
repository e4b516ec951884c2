use Rattle.std.proofs.Common.{◌≡◌, ◌+◌, ℕ, get_or, take, sym, ap, ◌∙◌, arith}
use Rattle.std.proofs.lemmas.List.{take_all}
use Rattle.topos_model.specs.categories.Category.{dom}
use Rattle.place_closures.proofs.PairNumbers.{total}
use Rattle.place_closures.proofs.PairRows.{pairs-total, total_more}
use Rattle.power_objects.proofs.listing.pair_count.Goals as goal

pub loop-f-preserved : goal.loop-f-preserved
loop-f-preserved g c =
    let k = c.args.cat.now in
    let size = g.X.Elements.size c.args.x.now in
    let count : ℕ → ℕ = λ f. size (dom k f) in
    let items = c.arrows_into-f-items.result.now in
    let e : c.from-count.result ≡ count (get_or items c.loop-f.f-index 0) = c.from-count.ensures ∙ c.count.ensures ∙ ap size c.dom.ensures.value in
    record {
      before = ap (λ n. n + c.from-count.result) c.loop-f.invariant.before ∙ ap (λ n. total count (take c.loop-f.f-index items) + n) e ∙ sym (total_more count items c.loop-f.f-index c.loop-f-test.true);
      few = let few = c.loop-f.invariant.few in omega (arith, few, c.from-count.ensures, c.count.type_inv);
    }

pub returns-clause-pairs : goal.returns-clause-pairs
returns-clause-pairs g c =
    let k = c.args.cat.now in
    let size = g.X.Elements.size c.args.x.now in
    c.loop-f.invariant.before ∙ ap (total (λ f. size (dom k f))) (take_all c.loop-f.f-index c.arrows_into-f-items.result.now (omega (arith, c.loop-f-test.false)) ∙ c.arrows_into-f-items.ensures.value)
    ∙ sym (pairs-total k size (g.X.Elements.restriction c.args.x.now) c.args.c)
