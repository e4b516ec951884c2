use Rattle.std.proofs.Common.{◌≡◌, ◌++◌, drop, map}
use Rattle.topologies.specs.Candidates.{kept_as, listed_at}
use Rattle.topologies.proofs.listed.push_listed.Given as goal

-- what is left gives the whole
abbrev pub invariant-loop-family : goal.invariant-loop-family
invariant-loop-family l = map kept_as l.sieves ++ listed_at l.cat (drop l.family-index l.families) l.c ≡ map kept_as l.initial.sieves ++ listed_at l.cat l.families l.c
