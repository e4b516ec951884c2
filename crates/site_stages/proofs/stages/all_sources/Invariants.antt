use Rattle.std.proofs.Common.{◌≡◌, map}
use Rattle.std.specs.List.{range_with_len}
use Rattle.topos_model.specs.categories.Category.{dom, into}
use Rattle.site_stages.proofs.stages.all_sources.Given as goal

abbrev pub invariant-loop-c : goal.invariant-loop-c
invariant-loop-c l = l.rows ≡ map (λ c. map (dom l.cat) (into l.cat c)) (range_with_len 0 l.c)
