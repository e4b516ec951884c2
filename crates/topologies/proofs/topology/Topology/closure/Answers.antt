use Rattle.std.proofs.Common.{◌≡◌, ℕ, ◌+◌, Bool, drop, filter, [], sym, ap, subst, ◌∙◌, arith}
use Rattle.finite_lists.specs.Members.{In}
use Rattle.finite_lists.proofs.Lists.{In-filter_from}
use Rattle.topos_model.specs.categories.Category.{into, dom, sieves}
use Rattle.topos_model.specs.topologies.LeastCovers.{least}
use Rattle.topos_model.proofs.ArrowsInto.{In-into_from}
use Rattle.fin_category.specs.Masks.{all_added}
use Rattle.fin_category.specs.ArrowSets.{arrows_in}
use Rattle.fin_category.proofs.ArrowLists.{Rises-filter, Rises-into, all_added-rising}
use Rattle.sieve_table.specs.Sieves.{sieve_arrows}
use Rattle.sieve_table.proofs.SieveMembers.{sieve_of, of_sieve}
use Rattle.sieve_table.proofs.AddedRows.{passed-step, failed-step, filtered-end}
use Rattle.topologies.specs.Closures.{goes_within, closure_by}
use Rattle.topologies.specs.Topologies.{site_of}
use Rattle.topologies.proofs.Closure.{closure-by_least, closure-sieve}
use Rattle.topologies.proofs.topology.Topology.closure.Goals as goal
use Rattle.topologies.proofs.topology.Topology.closure.Goals.{then-goes_into, else-goes_into}

pub loop-f-preserved : goal.loop-f-preserved
loop-f-preserved c =
    let k = c.args.cat.now in
    let p : ℕ → Bool = λ f. goes_within k (sieve_arrows c.args.s.now) f (least (site_of k c.args.self.now) (dom k f)) in
    let xs = c.arrows_into-f-items.result.now in
    elim c.if-goes_into.branch [
      | then-goes_into w ↦
          passed-step p (arrows_in c.loop-f.arrows) (arrows_in c.if-goes_into.arrows) xs c.loop-f.f-index c.loop-f-test.true
          (sym c.goes_into.ensures ∙ w.if-goes_into.true) (ap arrows_in w.arrows-is ∙ w.insert.ensures)
          ∙ c.loop-f.invariant
      | else-goes_into w ↦
          ap (λ m. all_added (arrows_in m) (filter p (drop (c.loop-f.f-index + 1) xs))) w.arrows-is
          ∙ failed-step p (arrows_in c.loop-f.arrows) xs c.loop-f.f-index c.loop-f-test.true (sym c.goes_into.ensures ∙ w.if-goes_into.false)
          ∙ c.loop-f.invariant
    ]

pub returns-clause-arrows : goal.returns-clause-arrows
unfolding closure_by
returns-clause-arrows c =
    let k = c.args.cat.now in
    let s = site_of k c.args.self.now in
    let S = sieve_arrows c.args.s.now in
    let d = c.args.s.now.at in
    let p : ℕ → Bool = λ f. goes_within k S f (least s (dom k f)) in
    let rest : all_added [] (filter p (into k d)) ≡ filter p (into k d) =
    all_added-rising (filter p (into k d)) (Rises-filter p (into k d) (Rises-into k d))
    (λ g i.
    let low = (In-into_from k d g (In-filter_from p (into k d) g i).0).0 in
    omega (arith, low, c.laws.ensures.few)) in
    c.new.ensures.arrows
    ∙ sym (filtered-end p (arrows_in c.loop-f.arrows) c.arrows_into-f-items.result.now c.loop-f.f-index c.loop-f-test.false) ∙ c.loop-f.invariant
    ∙ ap (λ ys. all_added [] (filter p ys)) (c.arrows_into-f-items.ensures.value ∙ ap (into k) c.at.ensures)
    ∙ rest
    ∙ closure-by_least s c.laws.ensures.lawful c.requires.topology.topology d S (sieve_of k d S c.requires.sieve)

pub returns-clause-sieve : goal.returns-clause-sieve
returns-clause-sieve c =
    let k = c.args.cat.now in
    let s = site_of k c.args.self.now in
    let S = sieve_arrows c.args.s.now in
    let d = c.args.s.now.at in
    subst (λ x. In (sieves k x) (sieve_arrows c.new.result)) (sym (c.new.ensures.at ∙ c.at-2.ensures))
    (subst (λ T. In (sieves k d) T) (sym (returns-clause-arrows c))
    (of_sieve k d _ (closure-sieve s c.laws.ensures.lawful c.requires.topology.topology d S (sieve_of k d S c.requires.sieve))))
