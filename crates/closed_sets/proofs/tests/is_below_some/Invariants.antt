use Rattle.std.proofs.Common.{◌≡◌, drop}
use Rattle.closed_sets.specs.Ideals.{is_below_some, is_subset}
use Rattle.closed_sets.proofs.tests.is_below_some.Given as goal

-- what is left gives the whole
abbrev pub invariant-loop-j : goal.invariant-loop-j
invariant-loop-j l = is_below_some is_subset l.k l.j (drop l.j l.values) ≡ is_below_some is_subset l.k 0 l.values
