use Rattle.std.proofs.Common.{◌<◌, sym, subst, ap, ◌∙◌, []}
use Rattle.finite_lists.specs.Members.{In}
use Rattle.finite_lists.proofs.Lists.{In_at}
use Rattle.fin_category.specs.Masks.{all_added}
use Rattle.fin_category.specs.ArrowSets.{arrows_in}
use Rattle.fin_category.proofs.ArrowLists.{all_added-step, all_added-end}
use Rattle.topologies.proofs.listed.arrows_of.Goals as goal

pub insert-requires : goal.insert-requires
insert-requires c =
    c.requires _ (subst (λ xs. In xs (Rattle.std.proofs.Common.get_or c.as_slice-f-items.result.now c.loop-f.f-index 0)) c.as_slice-f-items.ensures (In_at c.as_slice-f-items.result.now c.loop-f.f-index 0 c.loop-f-test.true))

pub loop-f-preserved : goal.loop-f-preserved
loop-f-preserved c = all_added-step (arrows_in c.loop-f.arrows) (arrows_in c.insert.new.self) c.as_slice-f-items.result.now c.loop-f.f-index c.loop-f-test.true c.insert.ensures ∙ c.loop-f.invariant

pub returns : goal.returns
returns c =
    sym (all_added-end (arrows_in c.loop-f.arrows) c.as_slice-f-items.result.now c.loop-f.f-index c.loop-f-test.false) ∙ c.loop-f.invariant
    ∙ ap (all_added []) c.as_slice-f-items.ensures
