use Rattle.std.proofs.Common.{sym, ap, ◌∙◌}
use Rattle.topos_model.specs.categories.Category.{into}
use Rattle.finite_lists.specs.First.{first}
use Rattle.fin_category.specs.Associativity.{triple_from_pair, triple_from}
use Rattle.fin_category.proofs.associativity.triple_from.Goals as goal

pub loop-g-init : goal.loop-g-init
unfolding triple_from
loop-g-init c = ap (first (triple_from_pair c.args.tables.now c.args.h)) (sym (c.arrows_into-g-items.ensures.value ∙ ap (into c.args.tables.now) c.dom.ensures.value))
