use Rattle.std.proofs.Common.{◌≡◌, inr, true, ◌&&◌, sym, ap, subst, ◌∙◌}
use Rattle.finite_lists.specs.Members.{In}
use Rattle.topos_model.specs.categories.Category.{has, dom, compose}
use Rattle.topos_model.specs.topologies.LeastCovers.{least}
use Rattle.fin_category.specs.ArrowSets.{left_in}
use Rattle.sieve_table.specs.Sieves.{sieve_arrows}
use Rattle.topologies.specs.Closures.{goes_within}
use Rattle.topologies.specs.Topologies.{site_of}
use Rattle.topologies.proofs.LeastCovers.{least-into}
use Rattle.topologies.proofs.topology.Topology.goes_into.Goals as goal

pub loop-g-init : goal.loop-g-init
loop-g-init c =
    let k = c.args.cat.now in
    let s = site_of k c.args.self.now in
    let e = ap left_in c.into_iter-g-iterator.ensures.into_iter_gives ∙ c.iter-g-items.ensures ∙ c.least_arrows.ensures ∙ ap (least s) c.dom.ensures.value in (
      tt,
      tt,
      ap (goes_within k (sieve_arrows c.args.s.now) c.args.f) e,
      (λ g i. least-into s c.laws.ensures.lawful (dom k c.args.f) g (subst (λ xs. In xs g) e i)),
    )

pub loop-g-preserved : goal.loop-g-preserved
loop-g-preserved c =
    let k = c.args.cat.now in
    let S = sieve_arrows c.args.s.now in
    let yes : has (compose k c.args.f c.in-Some.g) S ≡ true = sym (c.if-not-has.ensures ∙ ap (λ h. has h S) c.compose.ensures.value) in (
      tt,
      tt,
      ap (λ b. b && goes_within k S c.args.f (left_in c.next.new.self)) (sym yes) ∙ ap (goes_within k S c.args.f) (sym c.in-Some.ensures.steps) ∙ c.loop-g.invariant.2,
      (λ g i. c.loop-g.invariant.3 g (subst (λ xs. In xs g) (sym c.in-Some.ensures.steps) (inr i))),
    )
