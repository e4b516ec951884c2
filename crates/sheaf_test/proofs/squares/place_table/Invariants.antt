use Rattle.std.proofs.Common.{◌≡◌, ◌<◌, ℕ, length, get_or}
use Rattle.sheaf_test.proofs.squares.place_table.Given as goal

abbrev pub invariant-loop-i : goal.invariant-loop-i
invariant-loop-i l = record { long : length l.table.items ≡ length l.cat.ends; places : (j : ℕ) → j < l.i → get_or l.table.items (get_or l.arrows j 0) 0 ≡ j }
