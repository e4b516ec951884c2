use Rattle.std.proofs.Common.{ℕ, ◌<◌, get_or}
use Rattle.exponentials.proofs.tests.is_row_within.Given as goal

abbrev pub invariant-loop-y : goal.invariant-loop-y
invariant-loop-y l = (x : ℕ) → x < l.y-index → get_or l.row x 0 < l.bound
