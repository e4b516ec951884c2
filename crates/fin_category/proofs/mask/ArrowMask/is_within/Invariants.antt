use Rattle.std.proofs.Common.{◌≡◌, ℕ, ◌<◌, get_or, bit_and}
use Rattle.fin_category.proofs.mask.ArrowMask.is_within.Given as goal

-- the words before i lie within the other's
abbrev pub invariant-loop-i : goal.invariant-loop-i
invariant-loop-i l = (j : ℕ) → j < l.i → bit_and (get_or l.self.words j 0) (get_or l.o.words j 0) ≡ get_or l.self.words j 0
