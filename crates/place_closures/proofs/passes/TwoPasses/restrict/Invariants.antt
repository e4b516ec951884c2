use Rattle.std.proofs.Common.{◌≡◌, ◌<◌, ℕ, true, false, length, get_or}
use Rattle.closed_sets.specs.Closed.{IsBelow}
use Rattle.closed_sets.specs.Ideals.{lowered}
use Rattle.place_closures.specs.Passes.{moves, Has}
use Rattle.place_closures.proofs.passes.TwoPasses.restrict.Given as goal

abbrev pub invariant-places : goal.invariant-places
invariant-places l = record {
  places : length l.set ≡ length l.self.below;
  above : IsBelow l.fn.set l.set;
  within : IsBelow l.set (lowered (moves l.self.below) l.fn.set);
  done : (i j : ℕ) → i < l.i → get_or l.fn.set i false ≡ true → Has l.self.below i j → get_or l.set j false ≡ true;
}
