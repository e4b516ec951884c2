use Rattle.std.proofs.Common.{◌≡◌, ◌<◌, ℕ, length}
use Rattle.sealed_functors.specs.Rows.{rows_at}
use Rattle.sealed_types.specs.Sealed.{sizes_in, restrictions_in}
use Rattle.product_objects.specs.PairRows.{ArePairRows}
use Rattle.product_objects.proofs.pairs.all_pair_rows.Given as goal

abbrev pub invariant-loop-c : goal.invariant-loop-c
invariant-loop-c l = record {
  objects : length l.all ≡ l.c;
  rows : (c : ℕ) → c < l.c → ArePairRows l.cat (sizes_in l.store l.s) (sizes_in l.store l.t) (restrictions_in l.store l.s) (restrictions_in l.store l.t) c (rows_at l.all c);
}
