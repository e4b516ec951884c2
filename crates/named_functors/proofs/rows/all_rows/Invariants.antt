use Rattle.std.proofs.Common.{◌≡◌, ◌<◌, ℕ, length}
use Rattle.sealed_functors.specs.Rows.{rows_at}
use Rattle.named_functors.specs.NamedRows.{named_rows}
use Rattle.named_functors.proofs.rows.all_rows.Given as goal

abbrev pub invariant-loop-c : goal.invariant-loop-c
invariant-loop-c l = record {
  objects : length l.all ≡ l.c;
  rows : (c : ℕ) → c < l.c → rows_at l.all c ≡ named_rows l.cat l.functor c;
}
