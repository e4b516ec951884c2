use Rattle.std.proofs.Common.{◌≡◌, ℕ, false, length, get_or, drop}
use Rattle.topos_model.specs.categories.Category.{has}
use Rattle.place_closures.proofs.passes.put_back.Given as goal

abbrev pub invariant-loop-j : goal.invariant-loop-j
invariant-loop-j l = record {
  places : length l.set ≡ length l.last;
  alike : (j : ℕ) → has j (drop l.j-index l.row) ≡ false → get_or l.set j false ≡ get_or l.last j false;
}
