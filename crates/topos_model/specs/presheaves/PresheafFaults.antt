-- The first fault of a presheaf as it is listed.
use Rattle.std.specs.Prelude.{◌≡◌, ℕ, ◌<◌, ◌≤◌, Bool, cond, not, List, map, length, get_or, eqb, ltb, filter, Option, Some, None}
use Rattle.std.specs.List.{list_any, range_with_len}
use Rattle.finite_lists.specs.Members.{In, Distinct}
use Rattle.finite_lists.specs.First.{first, or_else, some_if}
use Rattle.topos_model.specs.declared.raw.RawAlong.{RawAlong}
use Rattle.topos_model.specs.declared.raw.RawFunctor.{RawFunctor}
use Rattle.topos_model.specs.declared.fault.Fault.{Fault}
use Rattle.topos_model.specs.declared.fault.Fault.TheVariants.{RestrictionMissing, NotTotal}
use Rattle.topos_model.specs.categories.Category.{Category, dom, cod, arrows}
use Rattle.topos_model.specs.types.Types.{Presheaf}
use Rattle.topos_model.specs.Laws.{IsCategory, IsFunctor}
use Rattle.topos_model.specs.categories.Listed.{entries_along}
use Rattle.topos_model.specs.categories.Filling.{has_restriction, filling_pair, filled_presheaf, IsFilledFunctor}
use Rattle.topos_model.specs.Faults.{functoriality_fault}

unfoldable pub declared : Category → List ℕ
declared k = filter (λ f. not (ltb f k.objects)) (arrows k)

-- whether an entry is listed for x
unfoldable pub has_entry : List (ℕ × ℕ) → ℕ → Bool
has_entry entries x = list_any (λ e. eqb e.0 x) entries

-- how many elements are listed at the codomain of f
abbrev pub listed_size : Category → RawFunctor → ℕ → ℕ
listed_size k raw f = get_or raw.sizes (cod k f) 0

-- the first x for which the restriction along f lists no entry
unfoldable pub total_fault : Category → RawFunctor → ℕ → Option Fault
total_fault k raw f =
    first (λ x. some_if (not (has_entry (entries_along raw.along f) x)) (NotTotal f x)) (range_with_len 0 (listed_size k raw f))

-- no restriction along f is listed, none fills it, and there are elements to restrict
unfoldable pub missing_restriction_fault : Category → RawFunctor → ℕ → Option Fault
missing_restriction_fault k raw f =
    elim (filling_pair k f) [ Some p ↦ None | None ↦ some_if (not (eqb (listed_size k raw f) 0)) (RestrictionMissing f) ]

unfoldable pub restriction_fault : Category → RawFunctor → ℕ → Option Fault
restriction_fault k raw f = cond (has_restriction raw.along f) (total_fault k raw f) (missing_restriction_fault k raw f)

unfoldable pub presheaf_fault : Category → RawFunctor → Option Fault
presheaf_fault k raw = or_else (first (restriction_fault k raw) (declared k)) (functoriality_fault k (filled_presheaf k raw))

-- sizes for all objects, and restrictions of elements to elements, along each declared arrow at most once and for each element at most once
pub record IsPresheafListing (k : Category) (raw : RawFunctor) : Type 0 where
  pub sizes : length raw.sizes ≡ k.objects
  pub arrows : (a : RawAlong) → In raw.along a → (k.objects ≤ a.arrow) × (a.arrow < length k.ends)
  pub arrows_once : Distinct (map (λ a. a.arrow) raw.along)
  pub entries : (a : RawAlong) → In raw.along a → (e : ℕ × ℕ) → In a.entries e →
      (e.0 < get_or raw.sizes (cod k a.arrow) 0) × (e.1 < get_or raw.sizes (dom k a.arrow) 0)
  pub entries_once : (a : RawAlong) → In raw.along a → Distinct (map (λ e. e.0) a.entries)

-- no fault is found exactly if some presheaf is filled and a functor, and then there is exactly one
abbrev pub FaultlessListingsAreOnePresheaf : Type 0
FaultlessListingsAreOnePresheaf =
    (k : Category) (raw : RawFunctor) → IsCategory k → IsPresheafListing k raw →
    (presheaf_fault k raw ≡ None → IsFilledFunctor k raw (filled_presheaf k raw) × IsFunctor k (filled_presheaf k raw)) ×
    ((X : Presheaf) → IsFilledFunctor k raw X → IsFunctor k X → (presheaf_fault k raw ≡ None) × (X ≡ filled_presheaf k raw))
