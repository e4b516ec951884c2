use Rattle.std.proofs.Common.{◌≡◌, drop, filter, []}
use Rattle.fin_category.specs.Masks.{all_added}
use Rattle.fin_category.specs.ArrowSets.{arrows_in}
use Rattle.topologies.specs.DenseCovers.{comes_back}
use Rattle.topologies.proofs.dense.dense_cover.Given as goal

-- what is left gives the whole
abbrev pub invariant-loop-f : goal.invariant-loop-f
invariant-loop-f l = all_added (arrows_in l.cover) (filter (comes_back l.cat) (drop l.f-index l.f-items)) ≡ all_added [] (filter (comes_back l.cat) l.f-items)
