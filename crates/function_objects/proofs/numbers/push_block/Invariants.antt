use Rattle.std.proofs.Common.{◌≡◌, ◌+◌, ◌++◌, map, get_or}
use Rattle.std.specs.List.{range_with_len}
use Rattle.function_objects.proofs.numbers.push_block.Given as goal

abbrev pub invariant-loop-w : goal.invariant-loop-w
invariant-loop-w l = l.out ≡ l.fn.out ++ map (λ w. get_or l.row (l.start + w) 0) (range_with_len 0 l.w)
