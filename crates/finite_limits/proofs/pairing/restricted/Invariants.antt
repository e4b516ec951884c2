use Rattle.std.proofs.Common.{◌≡◌, map}
use Rattle.std.specs.List.{range_with_len}
use Rattle.finite_limits.specs.Pairs.{restricted_pair}
use Rattle.finite_limits.proofs.pairing.restricted.Given as goal

abbrev pub invariant-loop-t : goal.invariant-loop-t
invariant-loop-t l = l.row ≡ map (restricted_pair l.first l.second l.along_x l.along_y l.starts l.places) (range_with_len 0 l.t)
