use Rattle.std.proofs.Common.{◌≡◌, ℕ, ◌+◌, ◌<◌, length}
use Rattle.topos_model.specs.categories.Category.{into}
use Rattle.type_rows.proofs.CellSums.{cells_below}
use Rattle.sealed_types.specs.Sealed.{sizes_in, restrictions_in}
use Rattle.function_objects.specs.Functions.{function_rows, function_bounds}
use Rattle.function_objects.specs.Listed.{IsListed, listed_at}
use Rattle.function_objects.proofs.listing.rows_within.Given as goal

abbrev pub invariant-loop-c : goal.invariant-loop-c
invariant-loop-c l = record {
  spent : l.left + cells_below (λ c. length (function_rows l.cat (sizes_in l.store l.s) (restrictions_in l.store l.s) (sizes_in l.store l.t) (restrictions_in l.store l.t) c)) (λ c. 1 + length (into l.cat c) + length (function_bounds l.cat (sizes_in l.store l.s) (restrictions_in l.store l.s) (sizes_in l.store l.t) c)) l.c ≡ l.room;
  objects : length l.all ≡ l.c;
  each : (c : ℕ) → c < l.c → IsListed l.cat (sizes_in l.store l.s) (restrictions_in l.store l.s) (sizes_in l.store l.t) (restrictions_in l.store l.t) c (listed_at l.all c);
}
