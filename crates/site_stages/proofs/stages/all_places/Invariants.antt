use Rattle.std.proofs.Common.{◌≡◌, map}
use Rattle.std.specs.List.{range_with_len}
use Rattle.topos_model.specs.categories.Category.{into}
use Rattle.site_stages.specs.Places.{places_among}
use Rattle.site_stages.proofs.stages.all_places.Given as goal

abbrev pub invariant-loop-c : goal.invariant-loop-c
invariant-loop-c l = l.rows ≡ map (λ c. places_among (into l.cat c) (into l.cat c)) (range_with_len 0 l.c)
