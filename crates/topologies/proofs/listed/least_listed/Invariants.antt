use Rattle.std.proofs.Common.{◌≡◌, drop}
use Rattle.topos_model.specs.categories.Category.{into}
use Rattle.fin_category.specs.ArrowSets.{arrows_in}
use Rattle.topologies.specs.Candidates.{common_arrows}
use Rattle.topologies.proofs.listed.least_listed.Given as goal

-- what is left gives the whole
abbrev pub invariant-loop-sieve : goal.invariant-loop-sieve
invariant-loop-sieve l = common_arrows l.c (arrows_in l.arrows) (drop l.sieve-index l.sieves) ≡ common_arrows l.c (into l.cat l.c) l.sieves
