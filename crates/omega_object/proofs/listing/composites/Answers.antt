use Rattle.std.proofs.Common.{inr, map, sym, ap, subst, ◌∙◌}
use Rattle.finite_lists.specs.Members.{In}
use Rattle.topos_model.specs.categories.Category.{compose}
use Rattle.fin_category.specs.Masks.{added, all_added}
use Rattle.fin_category.specs.ArrowSets.{arrows_in, left_in}
use Rattle.omega_object.proofs.Operations.{added_next, added_none}
use Rattle.omega_object.proofs.listing.composites.Goals as goal

pub loop-g-preserved : goal.loop-g-preserved
loop-g-preserved c =
    let h = compose c.args.cat.now c.args.f in (
      tt,
      tt,
      added_next h (arrows_in c.loop-g.mask) (arrows_in c.insert.new.self) (left_in c.next.new.self) c.in-Some.g (c.insert.ensures ∙ ap (λ x. added x (arrows_in c.loop-g.mask)) c.compose.ensures.value)
          ∙ ap (λ l. all_added (arrows_in c.loop-g.mask) (map h l)) (sym c.in-Some.ensures.steps) ∙ c.loop-g.invariant.2,
      (λ g i. c.loop-g.invariant.3 g (subst (λ l. In l g) (sym c.in-Some.ensures.steps) (inr i))),
    )

pub returns : goal.returns
returns c =
    let h = compose c.args.cat.now c.args.f in
    sym (ap (λ l. all_added (arrows_in c.loop-g.mask) (map h l)) c.in-None.ensures.steps.0 ∙ added_none (arrows_in c.loop-g.mask)) ∙ c.loop-g.invariant.2
