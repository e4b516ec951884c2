use Rattle.std.proofs.Common.{◌≡◌, ◌≤◌, ◌<◌, ◌-◌, ◌++◌, length, replicate, get_or, eqb}
use Rattle.finite_limits.specs.Kept.{passing}
use Rattle.finite_limits.specs.Pairs.{firsts, seconds, starts}
use Rattle.finite_limits.specs.Matches.{matching}
use Rattle.finite_limits.proofs.matches.matched.Given as goal

abbrev pub invariant-loop-x : goal.invariant-loop-x
invariant-loop-x l = record {
  first : l.first ≡ firsts (matching l.m l.n) l.x;
  second : l.second ≡ seconds (matching l.m l.n) l.x;
  starts : l.starts ≡ starts (matching l.m l.n) l.x;
}

-- up to y the numbers with the value of x are paired, and y is the next of them
abbrev pub invariant-walk : goal.invariant-walk
invariant-walk l = record {
  first : l.first ≡ firsts (matching l.m l.n) l.x ++ replicate (length (passing (λ w. eqb (get_or l.n w 0) (get_or l.m l.x 0)) l.y)) l.x;
  second : l.second ≡ seconds (matching l.m l.n) l.x ++ passing (λ w. eqb (get_or l.n w 0) (get_or l.m l.x 0)) l.y;
  within : l.y ≤ length l.n;
  value : l.y < length l.n → get_or l.n l.y 0 ≡ get_or l.m l.x 0;
}

abbrev pub decreases-walk : goal.decreases-walk
decreases-walk l = length l.n - l.y
