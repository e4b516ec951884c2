use Rattle.std.proofs.Common.{◌≡◌, ◌<◌, ℕ, length}
use Rattle.place_closures.specs.Passes.{Has}
use Rattle.place_closures.proofs.Adding.{Left}
use Rattle.place_closures.proofs.turned.turned.Given as goal

abbrev pub invariant-rows : goal.invariant-rows
invariant-rows l = record {
  count : length l.turned.items ≡ length l.rows;
  within : (j i : ℕ) → Has l.turned.items j i → i < length l.rows;
  whole : (i j : ℕ) → i < l.i → Has l.rows i j → Has l.turned.items j i;
}

abbrev pub invariant-loop-j : goal.invariant-loop-j
invariant-loop-j l = record {
  count : length l.turned.items ≡ length l.rows;
  within : (j i : ℕ) → Has l.turned.items j i → i < length l.rows;
  whole : (i j : ℕ) → i < l.i → Has l.rows i j → Has l.turned.items j i;
  left : Left l.j-items l.j-index (λ j. Has l.turned.items j l.i);
}
