use Rattle.std.proofs.Common.{◌≡◌, ℕ, ◌<◌, ◌≤◌, false, length, get_or}
use Rattle.closed_sets.proofs.list.copy.Given as goal

abbrev pub invariant-places : goal.invariant-places
invariant-places l = record {
  places : length l.copied ≡ length l.set;
  done : (k : ℕ) → k < l.k → get_or l.copied k false ≡ get_or l.set k false;
  left : (k : ℕ) → l.k ≤ k → get_or l.copied k false ≡ false;
}
