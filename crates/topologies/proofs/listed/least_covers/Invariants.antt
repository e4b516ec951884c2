use Rattle.std.proofs.Common.{◌≡◌, map}
use Rattle.std.specs.List.{range_with_len}
use Rattle.topos_model.specs.categories.Category.{into}
use Rattle.fin_category.specs.ArrowSets.{arrows_in}
use Rattle.topologies.specs.Candidates.{common_arrows}
use Rattle.topologies.proofs.listed.least_covers.Given as goal

-- the covers of the objects before c
abbrev pub invariant-loop-c : goal.invariant-loop-c
invariant-loop-c l = map arrows_in l.row ≡ map (λ c. common_arrows c (into l.cat c) l.sieves) (range_with_len 0 l.c)
