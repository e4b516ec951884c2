use Rattle.std.proofs.Common.{◌≡◌, ℕ, ◌<◌, ◌≤◌, length, get_or, bit_or}
use Rattle.fin_category.proofs.mask.ArrowMask.union.Given as goal

-- the words before i are those of the union, and the others are as they were
abbrev pub invariant-loop-i : goal.invariant-loop-i
invariant-loop-i l = record {
  whole : length l.words ≡ 8;
  done : (j : ℕ) → j < l.i → get_or l.words j 0 ≡ bit_or (get_or l.initial.words j 0) (get_or l.o.words j 0);
  left : (j : ℕ) → l.i ≤ j → get_or l.words j 0 ≡ get_or l.initial.words j 0;
}
