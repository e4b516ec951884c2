use Rattle.std.proofs.Common.{◌≡◌, not, ◌&&◌, eqb, drop}
use Rattle.finite_lists.specs.First.{first, some_if}
use Rattle.topos_model.specs.topologies.TopologyFaults.{intersection}
use Rattle.sieve_table.specs.Sieves.{sieve_arrows}
use Rattle.topologies.specs.Candidates.{covered, narrow_with}
use Rattle.topologies.proofs.candidates.narrow_with.Given as goal

-- what is left gives the whole
abbrev pub invariant-loop-m : goal.invariant-loop-m
invariant-loop-m l =
    first (λ m. some_if (eqb m.at l.l.at && not (covered l.cat l.sieves l.l.at (intersection (sieve_arrows l.l) (sieve_arrows m)))) m) (drop l.m-index l.sieves)
    ≡ narrow_with l.cat l.sieves l.l
