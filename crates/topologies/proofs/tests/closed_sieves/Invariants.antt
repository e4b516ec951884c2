use Rattle.std.proofs.Common.{◌≤◌}
use Rattle.topologies.proofs.tests.closed_sieves.Given as goal

abbrev pub invariant-loop-number : goal.invariant-loop-number
invariant-loop-number l = l.count ≤ l.number
