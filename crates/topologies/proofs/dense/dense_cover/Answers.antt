use Rattle.std.proofs.Common.{◌+◌, drop, filter, [], sym, ap, ◌∙◌, arith}
use Rattle.finite_lists.proofs.Lists.{In-filter_from}
use Rattle.topos_model.specs.categories.Category.{into}
use Rattle.topos_model.proofs.ArrowsInto.{In-into_from}
use Rattle.fin_category.specs.Masks.{all_added}
use Rattle.fin_category.specs.ArrowSets.{arrows_in}
use Rattle.fin_category.proofs.ArrowLists.{Rises-filter, Rises-into, all_added-rising}
use Rattle.sieve_table.proofs.AddedRows.{passed-step, failed-step, filtered-end}
use Rattle.topologies.specs.DenseCovers.{comes_back, dense_least}
use Rattle.topologies.proofs.dense.dense_cover.Goals as goal
use Rattle.topologies.proofs.dense.dense_cover.Goals.{then-comes_back, else-comes_back}

pub loop-f-preserved : goal.loop-f-preserved
loop-f-preserved c =
    let k = c.args.cat.now in
    let xs = c.arrows_into-f-items.result.now in
    elim c.if-comes_back.branch [
      | then-comes_back w ↦
          passed-step (comes_back k) (arrows_in c.loop-f.cover) (arrows_in c.if-comes_back.cover) xs c.loop-f.f-index c.loop-f-test.true
          (sym c.comes_back.ensures ∙ w.if-comes_back.true) (ap arrows_in w.cover-is ∙ w.insert.ensures)
          ∙ c.loop-f.invariant
      | else-comes_back w ↦
          ap (λ m. all_added (arrows_in m) (filter (comes_back k) (drop (c.loop-f.f-index + 1) xs))) w.cover-is
          ∙ failed-step (comes_back k) (arrows_in c.loop-f.cover) xs c.loop-f.f-index c.loop-f-test.true (sym c.comes_back.ensures ∙ w.if-comes_back.false)
          ∙ c.loop-f.invariant
    ]

pub returns : goal.returns
unfolding dense_least
returns c =
    let k = c.args.cat.now in
    sym (filtered-end (comes_back k) (arrows_in c.loop-f.cover) c.arrows_into-f-items.result.now c.loop-f.f-index c.loop-f-test.false) ∙ c.loop-f.invariant
    ∙ ap (λ ys. all_added [] (filter (comes_back k) ys)) c.arrows_into-f-items.ensures.value
    ∙ all_added-rising (filter (comes_back k) (into k c.args.c)) (Rises-filter (comes_back k) (into k c.args.c) (Rises-into k c.args.c))
    (λ g i.
    let low = (In-into_from k c.args.c g (In-filter_from (comes_back k) (into k c.args.c) g i).0).0 in
    omega (arith, low, c.laws.ensures.few))
