use Rattle.std.proofs.Common.{◌≡◌, ℕ, ◌-◌, ◌<◌, ◌≤◌, [], length, get_or}
use Rattle.finite_lists.specs.Members.{In}
use Rattle.finite_lists.specs.Rising.{Rising}
use Rattle.power_objects.specs.BitOrder.{Precedes, read_along}
use Rattle.power_objects.proofs.search.number_of.Given as goal

-- the set stands between, where it stands anywhere
abbrev pub invariant-halves : goal.invariant-halves
invariant-halves l = record {
  within : l.high ≤ length l.sets;
  between : Rising Precedes l.sets → In l.sets (read_along l.along l.other) →
      (i : ℕ) × (l.low ≤ i) × (i < l.high) × (get_or l.sets i [] ≡ read_along l.along l.other);
}

abbrev pub decreases-halves : goal.decreases-halves
decreases-halves l = l.high - l.low
