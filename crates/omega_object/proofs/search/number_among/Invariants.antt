use Rattle.std.proofs.Common.{◌≡◌, ℕ, ◌-◌, ◌<◌, ◌≤◌, [], length, map, get_or}
use Rattle.finite_lists.specs.Members.{In}
use Rattle.finite_lists.specs.Rising.{Rising}
use Rattle.fin_category.specs.ArrowSets.{arrows_in}
use Rattle.omega_object.specs.TruthValues.{Precedes}
use Rattle.omega_object.proofs.search.number_among.Given as goal

-- the set stands between, where it stands anywhere
abbrev pub invariant-halves : goal.invariant-halves
invariant-halves l = record {
  within : l.high ≤ length l.rows;
  between : Rising Precedes (map arrows_in l.rows) → In (map arrows_in l.rows) (arrows_in l.set) →
      (i : ℕ) × (l.low ≤ i) × (i < l.high) × (get_or (map arrows_in l.rows) i [] ≡ arrows_in l.set);
}

abbrev pub decreases-halves : goal.decreases-halves
decreases-halves l = l.high - l.low
