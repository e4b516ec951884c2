use Rattle.std.proofs.Common.{◌≡◌, ℕ, ◌<◌, false, length, get_or, eqb}
use Rattle.finite_limits.proofs.agreement.agreements.Given as goal

abbrev pub invariant-loop-x : goal.invariant-loop-x
invariant-loop-x l = record {
  places : length l.marks ≡ length l.m;
  answers : (k : ℕ) → k < l.x → get_or l.marks k false ≡ eqb (get_or l.m k 0) (get_or l.n k 0);
}
