use Rattle.std.proofs.Common.{◌≡◌, ℕ, ◌<◌, false, length, get_or}
use Rattle.closed_sets.proofs.closing.restore.Given as goal

abbrev pub invariant-places : goal.invariant-places
invariant-places l = record {
  places : length l.set ≡ length l.last;
  restored : (k : ℕ) → k < l.k → get_or l.set k false ≡ get_or l.last k false;
}
