use Rattle.std.proofs.Common.{◌≡◌, not, drop}
use Rattle.std.specs.List.{range_with_len}
use Rattle.finite_lists.specs.First.{first, some_if}
use Rattle.topologies.specs.Candidates.{covered, taken_twice, thin}
use Rattle.topologies.proofs.candidates.thin.Given as goal

-- what is left gives the whole
abbrev pub invariant-loop-c : goal.invariant-loop-c
invariant-loop-c l = first (λ c. some_if (not (covered l.cat l.sieves c (taken_twice l.cat l.least c))) c) (drop l.c (range_with_len 0 l.cat.objects)) ≡ thin l.cat l.sieves l.least
