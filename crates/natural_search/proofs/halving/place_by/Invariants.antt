use Rattle.std.proofs.Common.{ℕ, ◌-◌, ◌<◌, ◌≤◌}
use Rattle.std.specs.declared.cmp.Ordering.{Ordering}
use Rattle.natural_search.specs.Rows.{IsPlaced}
use Rattle.natural_search.proofs.halving.place_by.Given as goal

-- the place stands between, where it stands anywhere
abbrev pub invariant-halves : goal.invariant-halves
invariant-halves g l = record {
  within : l.high ≤ l.count;
  between : (n : ℕ) → n < l.count → ((m : ℕ) (answer : Ordering) → m < l.count → goal.F-post g l.order m answer → IsPlaced m n answer) → (l.low ≤ n) × (n < l.high);
}

abbrev pub decreases-halves : goal.decreases-halves
decreases-halves g l = l.high - l.low
