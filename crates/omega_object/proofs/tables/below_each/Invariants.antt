use Rattle.std.proofs.Common.{◌≡◌, map}
use Rattle.std.specs.List.{range_with_len}
use Rattle.topos_model.specs.categories.Category.{into, dom}
use Rattle.omega_object.specs.Tables.{composites_of}
use Rattle.fin_category.specs.ArrowSets.{arrows_in}
use Rattle.omega_object.proofs.tables.below_each.Given as goal

abbrev pub invariant-loop-f : goal.invariant-loop-f
invariant-loop-f l = map arrows_in l.row ≡ map (λ f. composites_of l.cat f (into l.cat (dom l.cat f))) (range_with_len 0 l.f)
