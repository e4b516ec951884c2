use Rattle.std.proofs.Common.{◌≡◌, ◌+◌, ◌*◌, length}
use Rattle.topos_model.specs.categories.Category.{into}
use Rattle.sealed_types.specs.Sealed.{sizes_in}
use Rattle.type_rows.proofs.CellSums.{cells_below}
use Rattle.product_objects.proofs.pairs.pairs_fit.Given as goal

abbrev pub invariant-loop-c : goal.invariant-loop-c
invariant-loop-c l = l.left + cells_below (λ c. sizes_in l.store l.s c * sizes_in l.store l.t c) (λ c. 1 + length (into l.cat c)) l.c ≡ l.room
