use Rattle.std.proofs.Common.{◌≡◌, ◌<◌, ℕ, true, false, get_or}
use Rattle.place_closures.specs.Passes.{Has, HasCover}
use Rattle.place_closures.proofs.Adding.{Left}
use Rattle.place_closures.proofs.passes.TwoPasses.brought_before.Given as goal

abbrev pub invariant-loop-m : goal.invariant-loop-m
invariant-loop-m l = Left l.m-items l.m-index (λ m. get_or l.last m false ≡ false → (k : ℕ) → Has l.self.covers k m → k < l.place → HasCover l.self.covers l.set k → get_or l.set k false ≡ true)
