use Rattle.std.proofs.Common.{◌≡◌, map}
use Rattle.std.specs.List.{range_with_len}
use Rattle.finite_limits.specs.Pairs.{pair_row}
use Rattle.finite_limits.proofs.pairing.pair_restrictions.Given as goal

abbrev pub invariant-loop-f : goal.invariant-loop-f
invariant-loop-f l = l.rows ≡ map (pair_row l.cat l.x l.y l.pairs.first l.pairs.second l.pairs.starts l.pairs.places) (range_with_len 0 l.f)
