use Rattle.std.proofs.Common.{inl, inr, [], map, refl, sym, ap, subst, ◌∙◌, arith}
use Rattle.finite_lists.specs.Members.{In}
use Rattle.topos_model.specs.categories.Category.{into, compose, sieves}
use Rattle.fin_category.specs.Masks.{added, all_added}
use Rattle.fin_category.specs.ArrowSets.{arrows_in, left_in}
use Rattle.sieve_table.specs.Composites.{all_composites}
use Rattle.sieve_table.proofs.SieveMembers.{of_sieve}
use Rattle.sieve_table.proofs.SieveComposites.{all_composites-step, all_composites-end, generated-all, generated-sieve}
use Rattle.sieve_table.proofs.AddedRows.{mapped-step, mapped-end}
use Rattle.sieve_table.proofs.sieve.Sieve.generated.Goals as goal

pub generators-init : goal.generators-init
generators-init c =
    let e = ap left_in c.into_iter-g-iterator.ensures.into_iter_gives ∙ c.iter-g-items.ensures in (
      tt,
      tt,
      ap (λ S. all_composites c.args.cat.now (into c.args.cat.now) S (left_in c.into_iter-g-iterator.result)) c.empty-mask.ensures
          ∙ ap (all_composites c.args.cat.now (into c.args.cat.now) []) e,
      (λ g i. c.requires.into g (subst (λ xs. In xs g) e i)),
    )

pub dom-requires : goal.dom-requires
dom-requires c = (c.generators.invariant.3 c.in-Some.g (subst (λ xs. In xs c.in-Some.g) (sym c.in-Some.ensures.steps) (inl refl))).0

pub loop-f-preserved : goal.loop-f-preserved
loop-f-preserved c =
    mapped-step (compose c.args.cat.now c.in-Some.g) (arrows_in c.loop-f.mask) (arrows_in c.insert.new.self) c.arrows_into-f-items.result.now c.loop-f.f-index c.loop-f-test.true
    (c.insert.ensures ∙ ap (λ f. added f (arrows_in c.loop-f.mask)) c.compose.ensures.value)
    ∙ c.loop-f.invariant

pub generators-preserved : goal.generators-preserved
generators-preserved c =
    let k = c.args.cat.now in
    let grown = sym (mapped-end (compose k c.in-Some.g) (arrows_in c.loop-f.mask) c.arrows_into-f-items.result.now c.loop-f.f-index c.loop-f-test.false) ∙ c.loop-f.invariant in (
      tt,
      tt,
      ap (λ S. all_composites k (into k) S (left_in c.next.new.self))
          (grown ∙ ap (λ ys. all_added (arrows_in c.generators.mask) (map (compose k c.in-Some.g) ys)) (c.arrows_into-f-items.ensures.value ∙ ap (into k) c.dom.ensures.value))
          ∙ sym (all_composites-step k (into k) (arrows_in c.generators.mask) c.in-Some.g (left_in c.next.new.self))
          ∙ ap (all_composites k (into k) (arrows_in c.generators.mask)) (sym c.in-Some.ensures.steps)
          ∙ c.generators.invariant.2,
      (λ g i. c.generators.invariant.3 g (subst (λ xs. In xs g) (sym c.in-Some.ensures.steps) (inr i))),
    )

pub returns-clause-arrows : goal.returns-clause-arrows
returns-clause-arrows c =
    let k = c.args.cat.now in
    sym (ap (all_composites k (into k) (arrows_in c.generators.mask)) c.in-None.ensures.steps.0 ∙ all_composites-end k (into k) (arrows_in c.generators.mask))
    ∙ c.generators.invariant.2
    ∙ generated-all k c.laws.ensures.lawful (λ d f i. let low = i.0 in omega (arith, low, c.laws.ensures.few)) c.args.c (arrows_in c.args.arrows) c.requires.into

pub returns-clause-sieve : goal.returns-clause-sieve
returns-clause-sieve c =
    let k = c.args.cat.now in
    subst (λ S. In (sieves k c.args.c) S) (sym (returns-clause-arrows c))
    (of_sieve k c.args.c _ (generated-sieve k c.laws.ensures.lawful c.args.c (arrows_in c.args.arrows) c.requires.into))
