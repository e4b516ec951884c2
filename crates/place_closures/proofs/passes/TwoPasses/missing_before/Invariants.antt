use Rattle.std.proofs.Common.{◌≡◌, ◌<◌, true, false, get_or}
use Rattle.place_closures.specs.Passes.{HasCover}
use Rattle.place_closures.proofs.Adding.{Left}
use Rattle.place_closures.proofs.passes.TwoPasses.missing_before.Given as goal

abbrev pub invariant-loop-k : goal.invariant-loop-k
invariant-loop-k l = Left l.k-items l.k-index (λ k. k < l.end → HasCover l.self.covers l.set k → get_or l.set k false ≡ true)
