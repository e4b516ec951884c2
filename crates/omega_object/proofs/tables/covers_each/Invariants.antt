use Rattle.std.proofs.Common.{◌≡◌, map}
use Rattle.std.specs.List.{range_with_len}
use Rattle.topos_model.specs.categories.Category.{dom}
use Rattle.topos_model.specs.topologies.LeastCovers.{least}
use Rattle.omega_object.specs.Tables.{composites_of}
use Rattle.fin_category.specs.ArrowSets.{arrows_in}
use Rattle.omega_object.proofs.tables.covers_each.Given as goal

abbrev pub invariant-loop-f : goal.invariant-loop-f
invariant-loop-f l = map arrows_in l.row ≡ map (λ f. composites_of l.site.category f (least l.site (dom l.site.category f))) (range_with_len 0 l.f)
