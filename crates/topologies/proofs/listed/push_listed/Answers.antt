use Rattle.std.proofs.Common.{◌≡◌, ℕ, ◌<◌, ◌++◌, inl, inr, [], get_or, drop, map, sym, subst, ap, ◌∙◌, arith}
use Rattle.finite_lists.specs.Members.{In}
use Rattle.finite_lists.proofs.Lists.{In_at}
use Rattle.topos_model.specs.categories.Category.{generated}
use Rattle.topos_model.specs.Laws.{IsInto}
use Rattle.fin_category.proofs.ArrowLists.{In-all_added_from}
use Rattle.topologies.specs.Candidates.{kept_as, listed_at}
use Rattle.topologies.proofs.ListedRows.{generated-set, listed-here, listed-other, listed-end}
use Rattle.topologies.proofs.listed.push_listed.Goals as goal
use Rattle.topologies.proofs.listed.push_listed.Goals.{then-family-c+in_ok-push, else-family-c}

pub arrows_of-requires : goal.arrows_of-requires
arrows_of-requires c = λ f i.
    let m = subst (λ x. In c.args.families.now x) (sym c.family-item.is) (In_at c.args.families.now c.loop-family.family-index c.family-item.result c.loop-family-test.true) in
    let low = (c.requires c.family-item.result m f i).0 in
    omega (arith, low, c.laws.ensures.few)

pub generated-requires : goal.generated-requires
generated-requires c = record {
  into = λ g i.
      let m = subst (λ x. In c.args.families.now x) (sym c.family-item.is) (In_at c.args.families.now c.loop-family.family-index c.family-item.result c.loop-family-test.true) in
      let j : In c.family-item.result.arrows g = elim (In-all_added_from [] c.family-item.result.arrows g (subst (λ xs. In xs g) c.arrows_of.ensures i)) [ inl n ↦ absurd n | inr l ↦ l ] in
      subst (λ d. IsInto c.args.cat.now d g) c.if-family-c.true (c.requires c.family-item.result m g j);
}

pub loop-family-preserved : goal.loop-family-preserved
loop-family-preserved c =
    let k = c.args.cat.now in
    let m = subst (λ x. In c.args.families.now x) (sym c.family-item.is) (In_at c.args.families.now c.loop-family.family-index c.family-item.result c.loop-family-test.true) in
    let low : (g : ℕ) → In c.family-item.result.arrows g → g < 512 = λ g i.
    (let l = (c.requires c.family-item.result m g i).0 in omega (arith, l, c.laws.ensures.few)) in
    elim c.if-family-c.branch [
      | then-family-c+in_ok-push w ↦
          ap (λ xs. map kept_as xs ++ listed_at k (drop (Rattle.std.proofs.Common.◌+◌ c.loop-family.family-index 1) c.args.families.now) c.args.c) w.sieves-is
          ∙ listed-here k c.args.c c.args.families.now c.loop-family.family-index c.family-item.result c.loop-family.sieves w.push.new.self w.generated.result c.loop-family-test.true c.family-item.is w.if-family-c.true
          w.in_ok-push.ensures.ok w.generated.ensures.at
          (w.generated.ensures.arrows ∙ ap (generated k c.args.c) w.arrows_of.ensures ∙ generated-set k c.args.c c.family-item.result.arrows low)
          ∙ c.loop-family.invariant
      | else-family-c w ↦
          ap (λ xs. map kept_as xs ++ listed_at k (drop (Rattle.std.proofs.Common.◌+◌ c.loop-family.family-index 1) c.args.families.now) c.args.c) w.sieves-is
          ∙ listed-other k c.args.c c.args.families.now c.loop-family.family-index c.family-item.result c.loop-family.sieves c.loop-family-test.true c.family-item.is w.if-family-c.false
          ∙ c.loop-family.invariant
    ]

pub returns : goal.returns
returns c = sym (listed-end c.args.cat.now c.args.c c.args.families.now c.loop-family.family-index c.loop-family.sieves c.loop-family-test.false) ∙ c.loop-family.invariant
