use Rattle.std.proofs.Common.{◌≡◌, ◌<◌, true, false, get_or}
use Rattle.place_closures.proofs.Adding.{Left}
use Rattle.place_closures.proofs.passes.absent_before.Given as goal

abbrev pub invariant-loop-j : goal.invariant-loop-j
invariant-loop-j l = Left l.row l.j-index (λ j. j < l.end → get_or l.set j false ≡ true)
