use Rattle.std.proofs.Common.{◌≡◌, ◌-◌, not, false, length, get_or}
use Rattle.std.specs.List.{range_with_len}
use Rattle.finite_lists.specs.First.{first, some_if}
use Rattle.presheaf_core.proofs.entries.first_unmarked.Given as goal

abbrev pub invariant-loop-x : goal.invariant-loop-x
invariant-loop-x l =
    first (λ x. some_if (not (get_or l.bits x false)) x) (range_with_len 0 (length l.bits)) ≡ first (λ x. some_if (not (get_or l.bits x false)) x) (range_with_len l.x (length l.bits - l.x))
