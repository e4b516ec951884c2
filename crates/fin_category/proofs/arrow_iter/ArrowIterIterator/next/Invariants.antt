use Rattle.std.proofs.Common.{◌≡◌, ℕ, ◌<◌, get_or}
use Rattle.fin_category.proofs.arrow_iter.ArrowIterIterator.next.Given as goal

-- no member stands in a word before i
abbrev pub invariant-loop-i : goal.invariant-loop-i
invariant-loop-i l = record {
  same : l.self.words ≡ l.initial.self.words;
  none : (j : ℕ) → j < l.i → get_or l.self.words j 0 ≡ 0;
}
