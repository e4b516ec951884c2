use Rattle.std.proofs.Common.{sym, ap, ◌∙◌}
use Rattle.topos_model.specs.categories.Category.{into}
use Rattle.finite_lists.specs.First.{first}
use Rattle.presheaf_core.specs.Functoriality.{instance_from_pair, instance_from}
use Rattle.presheaf_core.proofs.functoriality.instance_from.Goals as goal

pub loop-f-init : goal.loop-f-init
unfolding instance_from
loop-f-init c = ap (first (instance_from_pair c.args.cat.now c.args.functor.now c.args.g)) (sym (c.arrows_into-f-items.ensures.value ∙ ap (into c.args.cat.now) c.dom.ensures.value))
