use Rattle.std.proofs.Common.{◌≡◌, ℕ, ◌<◌, ◌*◌, length, drop}
use Rattle.std.specs.List.{range_with_len}
use Rattle.finite_lists.specs.First.{first}
use Rattle.topos_model.specs.categories.Listed.{all_ends}
use Rattle.topos_model.specs.categories.CategoryFaults.{missing_composite_fault}
use Rattle.fin_category.specs.Filling.{HoldsRow}
use Rattle.fin_category.proofs.Fillings.{missing_from}
use Rattle.fin_category.proofs.filling.filled_square.Given as goal

abbrev pub invariant-loop-g : goal.invariant-loop-g
invariant-loop-g l = record {
  search : missing_composite_fault l.raw ≡ first (missing_from l.raw) (drop l.g (range_with_len 0 (length (all_ends l.raw))));
  places : length l.square.items ≡ length (all_ends l.raw) * length (all_ends l.raw);
  rows : (g : ℕ) → g < l.g → HoldsRow l.raw l.square.items g;
}
