use Rattle.std.proofs.Common.{Option, None, Some, refl, ap, subst, ◌∙◌}
use denote.Bor.{Bor}
use Rattle.omega_object.specs.declared.omega.Omega.{Omega as TruthValues}
use Rattle.omega_object.specs.Tables.{IsOmegaOn}
use Rattle.sealed_world.specs.SealedWorlds.{CountedWorld}
use Rattle.sealed_world.proofs.world.SealedWorld.truth_values.Goals as goal

-- what a borrowed value is
seen_value : Option (Bor TruthValues) → Option TruthValues
seen_value (Some Ω) = Some Ω.now
seen_value None = None

pub returns-in-Some-clause-lawful : goal.returns-in-Some-clause-lawful
unfolding seen_value
returns-in-Some-clause-lawful c = λ Ω e. subst (λ (v : CountedWorld). IsOmegaOn v.site Ω.now) c.self.view_is (c.self.invariant.1.lawful Ω.now (c.in-Some.is ∙ ap seen_value e))

pub returns-in-Some-clause-counted : goal.returns-in-Some-clause-counted
returns-in-Some-clause-counted c = λ i. (_, refl)
