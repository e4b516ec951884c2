use Rattle.std.proofs.Common.{◌≡◌, ◌++◌, map}
use Rattle.std.specs.List.{range_with_len}
use Rattle.product_objects.specs.PairRows.{pair_at}
use Rattle.product_objects.proofs.pairs.push_pair.Given as goal

abbrev pub invariant-loop-j : goal.invariant-loop-j
invariant-loop-j l = l.out ≡ l.fn.out ++ map (pair_at l.widths l.first l.second) (range_with_len 0 l.j)
