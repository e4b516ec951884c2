use Rattle.std.proofs.Common.{◌≡◌, ◌<◌, ℕ, [], length, replicate}
use Rattle.topos_model.specs.categories.Category.{into}
use Rattle.sealed_functors.specs.Rows.{rows_at}
use Rattle.product_objects.proofs.one.one_rows.Given as goal

abbrev pub invariant-loop-c : goal.invariant-loop-c
invariant-loop-c l = record {
  objects : length l.all ≡ l.c;
  rows : (c : ℕ) → c < l.c → rows_at l.all c ≡ record { count = 1; width = 0; arrows = length (into l.cat c); rows = []; restrictions = replicate (length (into l.cat c)) 0 };
}
