use Rattle.std.proofs.Common.{◌≡◌, map, take, get_or}
use Rattle.finite_limits.proofs.kept.restricted.Given as goal

abbrev pub invariant-loop-x : goal.invariant-loop-x
invariant-loop-x l = l.row ≡ map (λ x. get_or l.ranks (get_or l.along x 0) 0) (take l.x-index l.elements)
