use Rattle.std.proofs.Common.{◌≡◌, drop}
use Rattle.std.specs.Option.{option_map}
use Rattle.finite_lists.specs.First.{first}
use Rattle.topologies.specs.Candidates.{unstable_along, unstable}
use Rattle.topologies.proofs.candidates.unstable.Given as goal

-- what is left gives the whole
abbrev pub invariant-loop-l : goal.invariant-loop-l
invariant-loop-l l = first (λ s. option_map (λ f. (s, f)) (unstable_along l.cat l.sieves s)) (drop l.l-index l.sieves) ≡ unstable l.cat l.sieves
