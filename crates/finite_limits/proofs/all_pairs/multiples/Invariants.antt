use Rattle.std.proofs.Common.{◌≡◌}
use Rattle.std.specs.List.{range_with_len}
use Rattle.finite_limits.specs.Pairs.{starts}
use Rattle.finite_limits.proofs.all_pairs.multiples.Given as goal

abbrev pub invariant-loop-x : goal.invariant-loop-x
invariant-loop-x l = l.row ≡ starts (λ _. range_with_len 0 l.b) l.x
