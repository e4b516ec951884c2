use Rattle.std.proofs.Common.{◌≡◌, ◌<◌, ℕ, length}
use Rattle.sealed_functors.specs.Rows.{rows_at}
use Rattle.omega_object.specs.Tables.{AreSieveRows}
use Rattle.omega_object.proofs.need.all_sieve_rows.Given as goal

abbrev pub invariant-loop-c : goal.invariant-loop-c
invariant-loop-c l = record {
  objects : length l.all ≡ l.c;
  rows : (c : ℕ) → c < l.c → AreSieveRows l.site c (rows_at l.all c);
}
