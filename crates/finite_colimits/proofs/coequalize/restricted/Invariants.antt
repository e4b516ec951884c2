use Rattle.std.proofs.Common.{◌≡◌, map, take, get_or}
use Rattle.finite_colimits.proofs.coequalize.restricted.Given as goal

abbrev pub invariant-loop-y : goal.invariant-loop-y
invariant-loop-y l = l.row ≡ map (λ y. get_or l.numbers (get_or l.along y 0) 0) (take l.y-index l.least)
