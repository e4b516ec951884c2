use Rattle.std.proofs.Common.{◌≡◌, map, get_or}
use Rattle.std.specs.List.{range_with_len}
use Rattle.exponentials.proofs.tests.entries.Given as goal

abbrev pub invariant-loop-x : goal.invariant-loop-x
invariant-loop-x l = l.entries ≡ map (λ x. (x, get_or l.row x 0)) (range_with_len 0 l.x)
