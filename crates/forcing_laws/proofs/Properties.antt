-- What the induction on terms shows of a meaning.
use Rattle.std.specs.Prelude.{◌≡◌, ℕ, true, List, filter}
use Rattle.finite_lists.specs.Members.{In}
use Rattle.topos_model.specs.declared.ty.Ty.{Ty, Omega}
use Rattle.topos_model.specs.declared.value.Val.{Val, Sv}
use Rattle.topos_model.specs.categories.Category.{dom, has, into}
use Rattle.topos_model.specs.Laws.{IsInto}
use Rattle.topos_model.specs.topologies.LeastCovers.{least}
use Rattle.topos_model.specs.types.Types.{restr}
use Rattle.topos_model.specs.types.Values.{arrows_of}
use Rattle.topos_model.specs.formulas.Forcing.{World, Assigned, Property, Meaning, values, along}
use Rattle.forcing_laws.proofs.Tuples.{Tuple}

-- it is kept along arrows
abbrev pub IsKept : World → List Ty → Property → Type 0
IsKept w Γ φ =
    (c f : ℕ) (a : Assigned) → Tuple w Γ c a → IsInto w.site.category c f → φ c a ≡ true → φ (dom w.site.category f) (along w f a) ≡ true

-- it holds where it holds along the least cover
abbrev pub IsGlued : World → List Ty → Property → Type 0
IsGlued w Γ φ =
    (c : ℕ) (a : Assigned) → Tuple w Γ c a → ((f : ℕ) → In (least w.site c) f → φ (dom w.site.category f) (along w f a) ≡ true) → φ c a ≡ true

pub record IsProperty (w : World) (Γ : List Ty) (φ : Property) : Type 0 where
  pub monotone : IsKept w Γ φ
  pub local : IsGlued w Γ φ

pub record IsValue (w : World) (Γ : List Ty) (U : Ty) (v : ℕ → Assigned → Val) : Type 0 where
  pub within : (c : ℕ) (a : Assigned) → Tuple w Γ c a → In (values w U c) (v c a)
  pub natural : (c f : ℕ) (a : Assigned) → Tuple w Γ c a → IsInto w.site.category c f → v (dom w.site.category f) (along w f a) ≡ restr w.site w.functors U f (v c a)

-- the value of a formula is the sieve of the arrows along which it is forced
pub record IsTruth (w : World) (Γ : List Ty) (m : Meaning) : Type 0 where
  pub property : IsProperty w Γ m.forces
  pub sieve : (c : ℕ) (a : Assigned) → Tuple w Γ c a → m.value c a ≡ Sv (filter (λ f. m.forces (dom w.site.category f) (along w f a)) (into w.site.category c))

pub record Means (w : World) (Γ : List Ty) (U : Ty) (m : Meaning) : Type 0 where
  pub value : IsValue w Γ U m.value
  pub identity : (c : ℕ) (a : Assigned) → Tuple w Γ c a → m.forces c a ≡ has c (arrows_of (m.value c a))
  pub truth : U ≡ Omega → IsTruth w Γ m
