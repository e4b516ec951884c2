use Rattle.std.proofs.Common.{◌≡◌, ℕ, Bool, List, true, false, length, get_or}
use Rattle.closed_sets.specs.Closed.{IsBelow}
use Rattle.place_closures.specs.Passes.{Has, HasCover, IsCoverClosed}
use Rattle.place_closures.proofs.Adding.{Left}
use Rattle.place_closures.proofs.passes.TwoPasses.cover_new.Given as goal

abbrev pub invariant-loop-m : goal.invariant-loop-m
invariant-loop-m l = record {
  places : length l.set ≡ length l.fn.set;
  above : IsBelow l.fn.set l.set;
  least : (t : List Bool) → length t ≡ length l.self.below → IsCoverClosed l.self.covers t → IsBelow l.fn.set t → IsBelow l.set t;
  left : Left l.m-items l.m-index (λ m. get_or l.last m false ≡ false → (k : ℕ) → Has l.self.covers k m → HasCover l.self.covers l.fn.set k → get_or l.set k false ≡ true);
}
