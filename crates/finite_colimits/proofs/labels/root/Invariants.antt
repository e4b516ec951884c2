use Rattle.std.proofs.Common.{◌≡◌, ℕ, ◌≤◌}
use Rattle.finite_colimits.specs.Labels.{Follows, AreShorter}
use Rattle.finite_colimits.proofs.labels.root.Given as goal

abbrev pub invariant-way : goal.invariant-way
invariant-way l = record {
  shorter : AreShorter l.initial.labels l.labels;
  below : l.at ≤ l.y;
  reached : (v : ℕ → ℕ) → Follows l.labels v → v l.y ≡ v l.at;
}

abbrev pub decreases-way : goal.decreases-way
decreases-way l = l.at
