use Rattle.std.proofs.Common.{◌≡◌, ◌<◌, ℕ, length}
use Rattle.sealed_functors.specs.Rows.{rows_at}
use Rattle.power_objects.specs.SubsetRows.{AreSubsetRows}
use Rattle.power_objects.proofs.subsets.all_subset_rows.Given as goal

abbrev pub invariant-loop-c : goal.invariant-loop-c
invariant-loop-c g l = record {
  objects : length l.rows ≡ l.c;
  rows : (c : ℕ) → c < l.c → AreSubsetRows l.site (g.X.Elements.size l.x) (g.X.Elements.restriction l.x) c (rows_at l.rows c);
}
