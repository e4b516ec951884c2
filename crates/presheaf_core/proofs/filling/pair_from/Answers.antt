use Rattle.std.proofs.Common.{sym, ap, ◌∙◌}
use Rattle.finite_lists.specs.First.{first}
use Rattle.topos_model.specs.categories.Category.{into}
use Rattle.presheaf_core.specs.Filling.{pair_at, pair_from}
use Rattle.presheaf_core.proofs.filling.pair_from.Goals as goal

pub loop-h-init : goal.loop-h-init
unfolding pair_from
loop-h-init c = ap (first (pair_at c.args.cat.now c.args.f c.args.g)) (sym (c.arrows_into-h-items.ensures.value ∙ ap (into c.args.cat.now) c.dom.ensures.value))
