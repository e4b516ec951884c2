use Rattle.std.proofs.Common.{◌≡◌, ℕ, ◌<◌, ◌≤◌, get_or, bit_and}
use Rattle.fin_category.proofs.mask.ArrowMask.meet.Given as goal

-- the words before i are those of the intersection, and the others are as they were
abbrev pub invariant-loop-i : goal.invariant-loop-i
invariant-loop-i l = record {
  done : (j : ℕ) → j < l.i → get_or l.words j 0 ≡ bit_and (get_or l.initial.words j 0) (get_or l.o.words j 0);
  left : (j : ℕ) → l.i ≤ j → get_or l.words j 0 ≡ get_or l.initial.words j 0;
}
