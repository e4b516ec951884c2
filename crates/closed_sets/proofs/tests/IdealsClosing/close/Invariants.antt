use Rattle.std.proofs.Common.{◌≡◌, ℕ, ◌<◌, false, length, get_or}
use Rattle.closed_sets.specs.Ideals.{is_below_some, is_subset}
use Rattle.closed_sets.proofs.tests.IdealsClosing.close.Given as goal

abbrev pub invariant-loop-k : goal.invariant-loop-k
invariant-loop-k l = record {
  places : length l.set ≡ 32;
  read : (k : ℕ) → k < l.k → get_or l.set k false ≡ is_below_some is_subset k 0 l.values;
}
