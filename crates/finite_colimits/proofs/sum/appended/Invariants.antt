use Rattle.std.proofs.Common.{◌≡◌, ◌+◌, ◌++◌, map, take}
use Rattle.finite_colimits.proofs.sum.appended.Given as goal

abbrev pub invariant-loop-x : goal.invariant-loop-x
invariant-loop-x l = l.row ≡ take l.x-index l.first

abbrev pub invariant-loop-y : goal.invariant-loop-y
invariant-loop-y l = l.row ≡ l.first ++ map (λ y. l.by + y) (take l.y-index l.second)
