use Rattle.std.proofs.Common.{sym, ap, ◌∙◌, [], arith}
use Rattle.topos_model.specs.categories.Category.{into}
use Rattle.topos_model.proofs.ArrowsInto.{In-into_from}
use Rattle.fin_category.specs.Masks.{all_added}
use Rattle.fin_category.specs.ArrowSets.{arrows_in}
use Rattle.fin_category.proofs.ArrowLists.{Rises-into, all_added-step, all_added-end, all_added-rising}
use Rattle.fin_category.proofs.category.Cat.into.Goals as goal

pub loop-f-init : goal.loop-f-init
loop-f-init c = ap (λ S. all_added S c.arrows_into-f-items.result.now) c.empty-mask.ensures

pub loop-f-preserved : goal.loop-f-preserved
loop-f-preserved c = all_added-step (arrows_in c.loop-f.mask) (arrows_in c.insert.new.self) c.arrows_into-f-items.result.now c.loop-f.f-index c.loop-f-test.true c.insert.ensures ∙ c.loop-f.invariant

pub returns : goal.returns
returns c =
    let e = c.arrows_into-f-items.ensures.value in
    sym (all_added-end (arrows_in c.loop-f.mask) c.arrows_into-f-items.result.now c.loop-f.f-index c.loop-f-test.false) ∙ c.loop-f.invariant
    ∙ ap (all_added []) e
    ∙ all_added-rising (into c.args.self.now c.args.c) (Rises-into c.args.self.now c.args.c)
    (λ f i. let low = (In-into_from c.args.self.now c.args.c f i).0 in omega (arith, low, c.laws.ensures.few))
