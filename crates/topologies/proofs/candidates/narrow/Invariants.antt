use Rattle.std.proofs.Common.{◌≡◌, drop}
use Rattle.std.specs.Option.{option_map}
use Rattle.finite_lists.specs.First.{first}
use Rattle.topologies.specs.Candidates.{narrow_with, narrow}
use Rattle.topologies.proofs.candidates.narrow.Given as goal

-- what is left gives the whole
abbrev pub invariant-loop-l : goal.invariant-loop-l
invariant-loop-l l = first (λ s. option_map (λ m. (s, m)) (narrow_with l.cat l.sieves s)) (drop l.l-index l.sieves) ≡ narrow l.cat l.sieves
