use Rattle.std.proofs.Common.{inr, map, sym, ap, subst, ◌∙◌}
use Rattle.finite_lists.specs.Members.{In}
use Rattle.topos_model.specs.categories.Category.{compose}
use Rattle.fin_category.specs.Masks.{added, all_added}
use Rattle.fin_category.specs.ArrowSets.{arrows_in, left_in}
use Rattle.topologies.proofs.TwiceRows.{mapped-one, mapped-none}
use Rattle.topologies.proofs.candidates.add_composites.Goals as goal

pub loop-g-preserved : goal.loop-g-preserved
loop-g-preserved c =
    let F = compose c.args.cat.now c.args.f in (
      tt,
      tt,
      mapped-one F (arrows_in c.loop-g.arrows) (arrows_in c.insert.new.self) (left_in c.next.new.self) c.in-Some.g (c.insert.ensures ∙ ap (λ h. added h (arrows_in c.loop-g.arrows)) c.compose.ensures.value)
          ∙ ap (λ ys. all_added (arrows_in c.loop-g.arrows) (map F ys)) (sym c.in-Some.ensures.steps)
          ∙ c.loop-g.invariant.2,
      (λ g i. c.loop-g.invariant.3 g (subst (λ xs. In xs g) (sym c.in-Some.ensures.steps) (inr i))),
    )

pub returns : goal.returns
returns c =
    let F = compose c.args.cat.now c.args.f in
    sym (ap (λ ys. all_added (arrows_in c.loop-g.arrows) (map F ys)) c.in-None.ensures.steps.0 ∙ mapped-none F (arrows_in c.loop-g.arrows)) ∙ c.loop-g.invariant.2
