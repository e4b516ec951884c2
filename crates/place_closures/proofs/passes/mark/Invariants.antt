use Rattle.std.proofs.Common.{◌≡◌, ◌||◌, ℕ, false, drop, length, get_or}
use Rattle.topos_model.specs.categories.Category.{has}
use Rattle.place_closures.proofs.passes.mark.Given as goal

-- what is left gives the whole
abbrev pub invariant-loop-j : goal.invariant-loop-j
invariant-loop-j l = record {
  places : length l.set ≡ length l.fn.set;
  left : (j : ℕ) → (get_or l.set j false || has j (drop l.j-index l.row)) ≡ (get_or l.fn.set j false || has j l.row);
}
