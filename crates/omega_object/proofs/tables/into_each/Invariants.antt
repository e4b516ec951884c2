use Rattle.std.proofs.Common.{◌≡◌, map}
use Rattle.std.specs.List.{range_with_len}
use Rattle.topos_model.specs.categories.Category.{into}
use Rattle.fin_category.specs.ArrowSets.{arrows_in}
use Rattle.omega_object.proofs.tables.into_each.Given as goal

abbrev pub invariant-loop-c : goal.invariant-loop-c
invariant-loop-c l = map arrows_in l.row ≡ map (into l.cat) (range_with_len 0 l.c)
