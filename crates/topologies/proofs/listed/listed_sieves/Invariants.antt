use Rattle.std.proofs.Common.{◌≡◌, map}
use Rattle.std.specs.List.{range_with_len, flat_map}
use Rattle.topologies.specs.Candidates.{kept_as, listed_at}
use Rattle.topologies.proofs.listed.listed_sieves.Given as goal

-- the listed sieves of the objects before c
abbrev pub invariant-loop-c : goal.invariant-loop-c
invariant-loop-c l = map kept_as l.sieves ≡ flat_map (listed_at l.cat l.families) (range_with_len 0 l.c)
