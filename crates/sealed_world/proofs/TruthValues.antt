-- The truth values stay where they are while other types are sealed.
use Rattle.std.proofs.Common.{◌≡◌, List, [], Option, None, Some, refl, ap, subst}
use Rattle.finite_lists.specs.Members.{In}
use Rattle.topos_model.specs.declared.ty.Ty.{Ty, Omega}
use Rattle.topos_model.specs.topologies.Cover.{Site}
use Rattle.omega_object.specs.declared.omega.Omega.{Omega as Values}
use Rattle.omega_object.specs.Tables.{IsOmegaOn}
use Rattle.sealed_world.specs.SealedWorlds.{HasTruthValues}

is_none_here : Option Values → Type 0
is_none_here None = Unit {0}
is_none_here (Some Ω) = ⊥

none_there : {Ω : Values} → ◌≡◌ {A = Option Values} None (Some Ω) → ⊥
unfolding is_none_here
none_there e = subst is_none_here e tt

pub no_values : (s : Site) (types : List Ty) → types ≡ [] → HasTruthValues s types None
no_values s types none = record { lawful = λ Ω e. absurd (none_there e); there = λ i. absurd (subst (λ l. In l Omega) none i) }

pub values_kept : (s : Site) (types more : List Ty) (values : Option Values) → (In more Omega → In types Omega) → HasTruthValues s types values → HasTruthValues s more values
values_kept s types more values before h = record { lawful = h.lawful; there = λ i. h.there (before i) }

value_or : Values → Option Values → Values
value_or Ω None = Ω
value_or Ω (Some v) = v

same_values : (Ω Ω' : Values) → ◌≡◌ {A = Option Values} (Some Ω) (Some Ω') → Ω ≡ Ω'
unfolding value_or
same_values Ω Ω' e = ap (value_or Ω) e

pub values_there : (s : Site) (types : List Ty) (Ω : Values) → IsOmegaOn s Ω → HasTruthValues s types (Some Ω)
values_there s types Ω h = record { lawful = λ Ω' e. subst (IsOmegaOn s) (same_values Ω Ω' e) h; there = λ i. (Ω, refl) }
