use Rattle.std.proofs.Common.{◌≡◌, ℕ, ◌<◌, get_or}
use Rattle.fin_category.proofs.mask.ArrowMask.first_difference.Given as goal

-- the words before i are equal
abbrev pub invariant-loop-i : goal.invariant-loop-i
invariant-loop-i l = (j : ℕ) → j < l.i → get_or l.self.words j 0 ≡ get_or l.o.words j 0
