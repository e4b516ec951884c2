use Rattle.std.proofs.Common.{◌≡◌, ℕ, ◌<◌, false, get_or}
use Rattle.power_objects.specs.BitOrder.{read_along}
use Rattle.power_objects.proofs.search.first_difference.Given as goal

abbrev pub invariant-loop-i : goal.invariant-loop-i
invariant-loop-i l = (j : ℕ) → j < l.i → get_or l.set j false ≡ get_or (read_along l.along l.other) j false
