use Rattle.std.proofs.Common.{◌≡◌, drop}
use Rattle.std.specs.List.{list_all}
use Rattle.topologies.specs.DenseCovers.{goes_back, comes_back}
use Rattle.topologies.proofs.dense.comes_back.Given as goal

-- what is left gives the whole
abbrev pub invariant-loop-g : goal.invariant-loop-g
invariant-loop-g l = list_all (goes_back l.cat l.f) (drop l.g-index l.g-items) ≡ comes_back l.cat l.f
