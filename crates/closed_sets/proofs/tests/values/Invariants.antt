use Rattle.std.proofs.Common.{◌≡◌, ℕ, ◌<◌, false, length, get_or}
use Rattle.closed_sets.proofs.tests.values.Given as goal

abbrev pub invariant-loop-k : goal.invariant-loop-k
invariant-loop-k l = record {
  places : length l.values ≡ 32;
  read : (k : ℕ) → k < l.k → get_or l.values k false ≡ get_or l.set k false;
}
