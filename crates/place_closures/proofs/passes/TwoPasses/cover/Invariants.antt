use Rattle.std.proofs.Common.{◌≡◌, ◌<◌, ℕ, true, false, length, get_or}
use Rattle.closed_sets.specs.Closed.{IsBelow}
use Rattle.place_closures.specs.Passes.{covered}
use Rattle.place_closures.proofs.passes.TwoPasses.cover.Given as goal

abbrev pub invariant-places : goal.invariant-places
invariant-places l = record {
  places : length l.set ≡ length l.self.below;
  above : IsBelow l.fn.set l.set;
  within : IsBelow l.set (covered l.self.covers l.fn.set);
  done : (i : ℕ) → i < l.i → get_or (covered l.self.covers l.fn.set) i false ≡ true → get_or l.set i false ≡ true;
}
