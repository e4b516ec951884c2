use Rattle.std.proofs.Common.{◌≡◌, ◌<◌, ℕ, get_or}
use Rattle.topos_model.specs.Laws.{act}
use Rattle.sheaf_test.proofs.gluing.restricts_to.Given as goal

abbrev pub invariant-loop-i : goal.invariant-loop-i
invariant-loop-i l = (j : ℕ) → j < l.i → act l.x (get_or l.arrows j 0) l.element ≡ get_or l.family j 0
