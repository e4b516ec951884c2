use Rattle.std.proofs.Common.{subst}
use Rattle.sealed_world.specs.SealedWorlds.{CountedWorld, IsStoreOf}
use Rattle.sealed_world.proofs.Growing.{lies_in}
use Rattle.sealed_world.proofs.world.SealedWorld.store.Goals as goal

pub returns : goal.returns
returns c =
    let w = c.self.inside in
    record { store = subst (λ (v : CountedWorld). IsStoreOf v w.store) c.self.view_is (lies_in (record { site = w.site; functors = w.functors; store = w.store }) c.self.invariant.0) }
