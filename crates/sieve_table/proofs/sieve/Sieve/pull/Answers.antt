use Rattle.std.proofs.Common.{◌≡◌, ℕ, ◌<◌, Bool, true, false, List, length, filter, [], sym, ap, subst, ◌∙◌, arith}
use Rattle.finite_lists.specs.Members.{In}
use Rattle.topos_model.specs.categories.Category.{has, into, dom, compose, pull, sieves}
use Rattle.topos_model.proofs.ArrowsInto.{In-into_from}
use Rattle.finite_lists.proofs.Lists.{In-filter_from}
use Rattle.fin_category.specs.Masks.{all_added}
use Rattle.fin_category.specs.ArrowSets.{arrows_in}
use Rattle.fin_category.proofs.ArrowLists.{Rises-filter, Rises-into, all_added-rising}
use Rattle.sieve_table.specs.Sieves.{sieve_arrows}
use Rattle.sieve_table.proofs.SieveMembers.{sieve_of, of_sieve, pull-sieve}
use Rattle.sieve_table.proofs.AddedRows.{passed-step, failed-step, filtered-end}
use Rattle.sieve_table.proofs.sieve.Sieve.pull.Goals as goal
use Rattle.sieve_table.proofs.sieve.Sieve.pull.Goals.{then-contains, else-contains}

pub loop-g-init : goal.loop-g-init
loop-g-init c =
    ap (λ S. all_added S (filter (λ g. has (compose c.args.cat.now c.args.f g) (sieve_arrows c.args.self.now)) c.arrows_into-g-items.result.now)) c.empty-arrows.ensures

pub loop-g-preserved : goal.loop-g-preserved
loop-g-preserved c =
    let p : ℕ → Bool = λ g. has (compose c.args.cat.now c.args.f g) (sieve_arrows c.args.self.now) in
    let test = c.contains.ensures ∙ ap (λ h. has h (sieve_arrows c.args.self.now)) c.compose.ensures.value in
    elim c.if-contains.branch [
      | then-contains w ↦
          passed-step p (arrows_in c.loop-g.arrows) (arrows_in c.if-contains.arrows) c.arrows_into-g-items.result.now c.loop-g.g-index c.loop-g-test.true
          (sym test ∙ w.if-contains.true) (ap arrows_in w.arrows-is ∙ w.insert.ensures)
          ∙ c.loop-g.invariant
      | else-contains w ↦
          ap (λ m. all_added (arrows_in m) (filter p (Rattle.std.proofs.Common.drop (Rattle.std.proofs.Common.◌+◌ c.loop-g.g-index 1) c.arrows_into-g-items.result.now))) w.arrows-is
          ∙ failed-step p (arrows_in c.loop-g.arrows) c.arrows_into-g-items.result.now c.loop-g.g-index c.loop-g-test.true (sym test ∙ w.if-contains.false)
          ∙ c.loop-g.invariant
    ]

pub returns-clause-arrows : goal.returns-clause-arrows
unfolding pull
returns-clause-arrows c =
    let k = c.args.cat.now in
    let p : ℕ → Bool = λ g. has (compose k c.args.f g) (sieve_arrows c.args.self.now) in
    sym (filtered-end p (arrows_in c.loop-g.arrows) c.arrows_into-g-items.result.now c.loop-g.g-index c.loop-g-test.false) ∙ c.loop-g.invariant
    ∙ ap (λ ys. all_added [] (filter p ys)) (c.arrows_into-g-items.ensures.value ∙ ap (into k) c.dom-at.ensures.value)
    ∙ all_added-rising (filter p (into k (dom k c.args.f))) (Rises-filter p (into k (dom k c.args.f)) (Rises-into k (dom k c.args.f)))
    (λ g i.
    let low = (In-into_from k (dom k c.args.f) g (In-filter_from p (into k (dom k c.args.f)) g i).0).0 in
    omega (arith, low, c.laws.ensures.few))

pub returns-clause-sieve : goal.returns-clause-sieve
returns-clause-sieve c =
    let k = c.args.cat.now in
    subst (λ d. In (sieves k d) (arrows_in c.loop-g.arrows)) (sym c.dom-at.ensures.value)
    (subst (λ S. In (sieves k (dom k c.args.f)) S) (sym (returns-clause-arrows c))
    (of_sieve k (dom k c.args.f) _
    (pull-sieve k c.laws.ensures.lawful c.args.self.now.at c.args.f (sieve_arrows c.args.self.now) (sieve_of k _ _ c.requires.sieve) c.requires.into)))
