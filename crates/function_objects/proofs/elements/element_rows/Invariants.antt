use Rattle.std.proofs.Common.{◌≡◌, ◌<◌, ◌+◌, ◌*◌, ℕ, [], length, get_or}
use Rattle.topos_model.specs.categories.Category.{into, dom}
use Rattle.sealed_types.specs.Sealed.{sizes_in, restrictions_in}
use Rattle.function_objects.specs.Functions.{function_rows, under_row, IsRowNumber}
use Rattle.function_objects.proofs.elements.element_rows.Given as goal

abbrev pub invariant-loop-n : goal.invariant-loop-n
invariant-loop-n l = record {
  length_is : length l.restrictions ≡ l.n * length (into l.cat l.c);
  numbers : (n i : ℕ) → n < l.n → i < length (into l.cat l.c) →
      IsRowNumber l.cat (sizes_in l.store l.s) (restrictions_in l.store l.s) (sizes_in l.store l.t) (restrictions_in l.store l.t) (dom l.cat (get_or (into l.cat l.c) i 0)) (get_or l.restrictions (n * length (into l.cat l.c) + i) 0)
      (under_row l.cat (sizes_in l.store l.s) (restrictions_in l.store l.s) l.c (get_or (into l.cat l.c) i 0) (get_or (function_rows l.cat (sizes_in l.store l.s) (restrictions_in l.store l.s) (sizes_in l.store l.t) (restrictions_in l.store l.t) l.c) n []));
}
