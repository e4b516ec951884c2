use Rattle.std.proofs.Common.{◌≡◌, not, drop}
use Rattle.finite_lists.specs.First.{first, some_if}
use Rattle.topos_model.specs.categories.Category.{dom, pull}
use Rattle.sieve_table.specs.Sieves.{sieve_arrows}
use Rattle.topologies.specs.Candidates.{covered, unstable_along}
use Rattle.topologies.proofs.candidates.unstable_along.Given as goal

-- what is left gives the whole
abbrev pub invariant-loop-f : goal.invariant-loop-f
invariant-loop-f l =
    first (λ f. some_if (not (covered l.cat l.sieves (dom l.cat f) (pull l.cat f (sieve_arrows l.l)))) f) (drop l.f-index l.f-items) ≡ unstable_along l.cat l.sieves l.l
