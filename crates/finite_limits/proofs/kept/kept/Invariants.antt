use Rattle.std.proofs.Common.{◌≡◌, false, get_or}
use Rattle.finite_limits.specs.Kept.{passing, passing_before}
use Rattle.finite_limits.proofs.kept.kept.Given as goal

abbrev pub invariant-loop-x : goal.invariant-loop-x
invariant-loop-x l = record {
  elements : l.elements ≡ passing (λ x. get_or l.marks x false) l.x;
  ranks : l.ranks ≡ passing_before (λ x. get_or l.marks x false) l.x;
}
