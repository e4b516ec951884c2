use Rattle.std.proofs.Common.{◌≡◌, map, take}
use Rattle.topos_model.specs.categories.Category.{dom}
use Rattle.site_stages.proofs.stages.sources_into.Given as goal

abbrev pub invariant-loop-f : goal.invariant-loop-f
invariant-loop-f l = l.row ≡ map (dom l.cat) (take l.f-index l.f-items)
