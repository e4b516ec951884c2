-- Functors of finite categories, and the presheaves that they restrict (Categorical Preliminaries, VII).
use Rattle.std.specs.Prelude.{◌≡◌, ℕ, ◌<◌, Bool, true, false, cond, not, ◌||◌, List, [], map, length, get_or, eqb, ltb, Option, None}
use Rattle.std.specs.List.{list_any, range_with_len}
use Rattle.finite_lists.specs.Members.{In}
use Rattle.finite_lists.specs.First.{first, or_else, some_if}
use Rattle.topos_model.specs.declared.raw.RawCatFunctor.{RawCatFunctor}
use Rattle.topos_model.specs.declared.fault.Fault.{Fault}
use Rattle.topos_model.specs.declared.fault.Fault.TheVariants.{NotSent, FunctorEnds, FunctorLaw}
use Rattle.topos_model.specs.categories.Category.{Category, into, dom, cod, compose, arrows}
use Rattle.topos_model.specs.types.Types.{Presheaf}
use Rattle.topos_model.specs.Laws.{IsCategory, AreComposable, size, IsFunctor}
use Rattle.topos_model.specs.categories.Listed.{entry_at}
use Rattle.topos_model.specs.presheaves.Maps.{Components, component, IsNatural}

-- where the objects and the arrows of a category go
pub record CatFunctor : Type 0 where
  pub at : List ℕ
  pub along : List ℕ

abbrev pub object_to : CatFunctor → ℕ → ℕ
object_to F d = get_or F.at d 0

abbrev pub arrow_to : CatFunctor → ℕ → ℕ
arrow_to F u = get_or F.along u 0

-- F goes from D to C
pub record IsCatFunctor (D C : Category) (F : CatFunctor) : Type 0 where
  pub objects : length F.at ≡ D.objects
  pub arrows : length F.along ≡ length D.ends
  pub objects_within : (d : ℕ) → d < D.objects → object_to F d < C.objects
  pub arrows_within : (u : ℕ) → u < length D.ends → arrow_to F u < length C.ends
  pub ends : (u : ℕ) → u < length D.ends → (dom C (arrow_to F u) ≡ object_to F (dom D u)) × (cod C (arrow_to F u) ≡ object_to F (cod D u))
  pub identity : (d : ℕ) → d < D.objects → arrow_to F d ≡ object_to F d
  pub composite : (v u : ℕ) → AreComposable D v u → arrow_to F (compose D v u) ≡ compose C (arrow_to F v) (arrow_to F u)

-- whether something is listed for n
abbrev pub is_sent : List (ℕ × ℕ) → ℕ → Bool
is_sent entries n = list_any (λ e. eqb e.0 n) entries

module _ (D : Category) where
  abbrev pub objects : List ℕ
  objects = range_with_len 0 D.objects

  -- the functor with these entries that takes identities to identities
  unfoldable pub listed_functor : RawCatFunctor → CatFunctor
  listed_functor raw = record {
    at = map (entry_at raw.at) objects;
    along = map (λ u. cond (ltb u D.objects) (entry_at raw.at u) (entry_at raw.along u)) (arrows D);
  }

  -- the first object, or else the first arrow that is no identity, for which nothing is listed
  unfoldable pub sending_fault : RawCatFunctor → Option Fault
  sending_fault raw =
      or_else (first (λ d. some_if (not (is_sent raw.at d)) (NotSent false d)) objects)
      (first (λ u. some_if (not (ltb u D.objects || is_sent raw.along u)) (NotSent true u)) (arrows D))

  -- the first arrow that goes to one with other ends than those to which its ends go
  unfoldable pub ends_fault : Category → CatFunctor → Option Fault
  ends_fault C F =
      first (λ u. or_else
      (some_if (not (eqb (dom C (arrow_to F u)) (object_to F (dom D u)))) (FunctorEnds u))
      (some_if (not (eqb (cod C (arrow_to F u)) (object_to F (cod D u)))) (FunctorEnds u))) (arrows D)

  -- the first (v, u) with F(v.u) other than F(v).F(u)
  unfoldable pub composite_fault : Category → CatFunctor → Option Fault
  composite_fault C F =
      first (λ v. first (λ u.
      some_if (not (eqb (arrow_to F (compose D v u)) (compose C (arrow_to F v) (arrow_to F u)))) (FunctorLaw v u))
      (into D (dom D v))) (arrows D)

  unfoldable pub functor_fault : Category → RawCatFunctor → Option Fault
  functor_fault C raw = or_else (sending_fault raw) (or_else (ends_fault C (listed_functor raw)) (composite_fault C (listed_functor raw)))

  -- the presheaf on D with X(F d) at each d, in which x.u is x.F(u)
  unfoldable pub restricted : CatFunctor → Presheaf → Presheaf
  restricted F X = record { sizes = map (λ d. size X (object_to F d)) objects; along = map (λ u. get_or X.along (arrow_to F u) []) (arrows D) }

  -- the natural map on D with the component at F d at each d
  unfoldable pub restricted_map : CatFunctor → Components → Components
  restricted_map F m = map (λ d. component m (object_to F d)) objects

-- the restriction of a presheaf is a presheaf, and that of a natural map is natural
abbrev pub RestrictionsAreFunctors : Type 0
RestrictionsAreFunctors = (D C : Category) (F : CatFunctor) (X : Presheaf) → IsCategory D → IsCatFunctor D C F → IsFunctor C X → IsFunctor D (restricted D F X)

abbrev pub RestrictionsAreNatural : Type 0
RestrictionsAreNatural =
    (D C : Category) (F : CatFunctor) (X Y : Presheaf) (m : Components) → IsCategory D → IsCatFunctor D C F → IsNatural C X Y m →
    IsNatural D (restricted D F X) (restricted D F Y) (restricted_map D F m)

-- a listed functor with no fault is a functor
abbrev pub FaultlessFunctorsAreFunctors : Type 0
FaultlessFunctorsAreFunctors =
    (D C : Category) (raw : RawCatFunctor) → IsCategory D → IsCategory C →
    ((e : ℕ × ℕ) → In raw.at e → e.1 < C.objects) → ((e : ℕ × ℕ) → In raw.along e → e.1 < length C.ends) →
    functor_fault D C raw ≡ None → IsCatFunctor D C (listed_functor D raw)
