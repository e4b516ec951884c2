use Rattle.std.proofs.Common.{◌≡◌, ℕ, ◌<◌, ◌&&◌, false, length, get_or}
use Rattle.closed_sets.specs.Parts.{pair_parts}
use Rattle.closed_sets.proofs.tests.PairsClosing.close.Given as goal

abbrev pub invariant-loop-k : goal.invariant-loop-k
invariant-loop-k l = record {
  places : length l.set ≡ 63;
  read : (k : ℕ) → k < l.k → get_or l.set k false ≡ (get_or l.present (pair_parts k).0 false && get_or l.present (pair_parts k).1 false);
}
