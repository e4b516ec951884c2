use Rattle.std.proofs.Common.{◌≡◌, ℕ, ◌<◌, ◌≤◌, length, get_or}
use Rattle.functor_store.proofs.numbers.fill.Given as goal

abbrev pub invariant-loop-i : goal.invariant-loop-i
invariant-loop-i l = record {
  length_is : length l.numbers ≡ length l.fn.numbers;
  below : (k : ℕ) → k < l.from → get_or l.numbers k 0 ≡ get_or l.fn.numbers k 0;
  between : (k : ℕ) → l.from ≤ k → k < l.i → get_or l.numbers k 0 ≡ l.number;
  above : (k : ℕ) → l.i ≤ k → get_or l.numbers k 0 ≡ get_or l.fn.numbers k 0;
  skipped : l.to < l.from → l.i ≡ l.from;
}
