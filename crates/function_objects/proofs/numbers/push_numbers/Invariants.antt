use Rattle.std.proofs.Common.{◌≡◌, ◌<◌, ◌+◌, ℕ, [], length, get_or}
use Rattle.topos_model.specs.categories.Category.{dom}
use Rattle.sealed_types.specs.Sealed.{sizes_in, restrictions_in}
use Rattle.function_objects.specs.Functions.{function_rows, under_row, IsRowNumber}
use Rattle.function_objects.proofs.numbers.push_numbers.Given as goal

abbrev pub invariant-loop-h : goal.invariant-loop-h
invariant-loop-h l = record {
  length_is : length l.out ≡ length l.fn.out + l.h-index;
  kept : (i : ℕ) → i < length l.fn.out → get_or l.out i 0 ≡ get_or l.fn.out i 0;
  numbers : (i : ℕ) → i < l.h-index →
      IsRowNumber l.cat (sizes_in l.store l.s) (restrictions_in l.store l.s) (sizes_in l.store l.t) (restrictions_in l.store l.t) (dom l.cat (get_or l.h-items i 0)) (get_or l.out (length l.fn.out + i) 0)
      (under_row l.cat (sizes_in l.store l.s) (restrictions_in l.store l.s) l.c (get_or l.h-items i 0) (get_or (function_rows l.cat (sizes_in l.store l.s) (restrictions_in l.store l.s) (sizes_in l.store l.t) (restrictions_in l.store l.t) l.c) l.n []));
}
