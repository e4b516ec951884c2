use Rattle.std.proofs.Common.{◌≡◌, ℕ, length}
use Rattle.place_closures.specs.Passes.{Has}
use Rattle.place_closures.proofs.turned.no_rows.Given as goal

abbrev pub invariant-rows : goal.invariant-rows
invariant-rows l = record {
  count : length l.rows.items ≡ l.counter;
  none : (i j : ℕ) → Has l.rows.items i j → ⊥;
}
