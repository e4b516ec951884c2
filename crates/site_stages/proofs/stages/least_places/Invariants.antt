use Rattle.std.proofs.Common.{◌≡◌, map}
use Rattle.std.specs.List.{range_with_len}
use Rattle.topos_model.specs.categories.Category.{into}
use Rattle.topos_model.specs.topologies.LeastCovers.{least}
use Rattle.site_stages.specs.Places.{places_among}
use Rattle.site_stages.proofs.stages.least_places.Given as goal

abbrev pub invariant-loop-c : goal.invariant-loop-c
invariant-loop-c l = l.rows ≡ map (λ c. places_among (into l.site.category c) (least l.site c)) (range_with_len 0 l.c)
