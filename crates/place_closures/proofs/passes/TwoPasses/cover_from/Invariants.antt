use Rattle.std.proofs.Common.{◌≡◌, Bool, List, true, false, length, get_or}
use Rattle.closed_sets.specs.Closed.{IsBelow}
use Rattle.place_closures.specs.Passes.{HasCover, IsCoverClosed}
use Rattle.place_closures.proofs.Adding.{Left}
use Rattle.place_closures.proofs.passes.TwoPasses.cover_from.Given as goal

abbrev pub invariant-loop-k : goal.invariant-loop-k
invariant-loop-k l = record {
  places : length l.set ≡ length l.fn.set;
  above : IsBelow l.fn.set l.set;
  least : (t : List Bool) → length t ≡ length l.self.below → IsCoverClosed l.self.covers t → IsBelow l.fn.set t → IsBelow l.set t;
  left : Left l.k-items l.k-index (λ k. HasCover l.self.covers l.fn.set k → get_or l.set k false ≡ true);
}
