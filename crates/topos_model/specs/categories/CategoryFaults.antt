-- The first fault of a category as it is listed.
use Rattle.std.specs.Prelude.{◌≡◌, ℕ, ◌<◌, ◌≤◌, Bool, not, ◌&&◌, ◌||◌, length, get_or, take, eqb, ltb, Option, None}
use Rattle.std.specs.List.{range_with_len}
use Rattle.finite_lists.specs.Members.{In}
use Rattle.finite_lists.specs.First.{first, or_else, some_if}
use Rattle.topos_model.specs.declared.raw.RawCat.{RawCat}
use Rattle.topos_model.specs.declared.fault.Fault.{Fault}
use Rattle.topos_model.specs.declared.fault.Fault.TheVariants.{CompositeEnds, CompositeTwice, CompositeMissing}
use Rattle.topos_model.specs.categories.Category.{Category}
use Rattle.topos_model.specs.Laws.{IsCategory}
use Rattle.topos_model.specs.categories.Listed.{all_ends, meet, composable}
use Rattle.topos_model.specs.categories.Filling.{domain_of, codomain_of, candidates, has_composite, filled_category, Filled}
use Rattle.topos_model.specs.Faults.{associativity_fault}

-- whether f ends where g begins, and h has the ends of g.f
unfoldable pub has_ends : RawCat → ℕ → ℕ → ℕ → Bool
has_ends raw g f h =
    let ends = all_ends raw in
    meet ends g f && eqb (domain_of ends h) (domain_of ends f) && eqb (codomain_of ends h) (codomain_of ends g)

-- the fault of the listed composite number i
unfoldable pub listed_composite_fault : RawCat → ℕ → Option Fault
listed_composite_fault raw i =
    let e = get_or raw.listed i (0, 0, 0) in
    or_else (some_if (not (has_ends raw e.0 e.1 e.2)) (CompositeEnds e.0 e.1 e.2))
    (some_if (has_composite (take i raw.listed) e.0 e.1) (CompositeTwice e.0 e.1))

unfoldable pub listing_fault : RawCat → Option Fault
listing_fault raw = first (listed_composite_fault raw) (range_with_len 0 (length raw.listed))

-- whether g.f is listed, or what is listed leaves no choice of it
unfoldable pub is_determined : RawCat → ℕ → ℕ → Bool
is_determined raw g f =
    ltb g raw.objects || ltb f raw.objects || has_composite raw.listed g f || eqb (length (candidates (all_ends raw) g f)) 1

-- the first (g, f) without a composite
unfoldable pub missing_composite_fault : RawCat → Option Fault
missing_composite_fault raw = first (λ p. some_if (not (is_determined raw p.0 p.1)) (CompositeMissing p.0 p.1)) (composable (all_ends raw))

unfoldable pub category_fault : RawCat → Option Fault
category_fault raw = or_else (listing_fault raw) (or_else (missing_composite_fault raw) (associativity_fault (filled_category raw)))

-- f is the number of a declared arrow
abbrev pub IsDeclared : RawCat → ℕ → Type 0
IsDeclared raw f = (raw.objects ≤ f) × (f < length (all_ends raw))

-- ends are objects, and composites of declared arrows are listed
pub record IsCategoryListing (raw : RawCat) : Type 0 where
  pub ends : (e : ℕ × ℕ) → In raw.ends e → (e.0 < raw.objects) × (e.1 < raw.objects)
  pub listed : (e : ℕ × ℕ × ℕ) → In raw.listed e → IsDeclared raw e.0 × IsDeclared raw e.1 × (e.2 < length (all_ends raw))

-- no fault is found exactly if some category is filled and lawful, and then there is exactly one
abbrev pub FaultlessListingsAreOneCategory : Type 0
FaultlessListingsAreOneCategory =
    (raw : RawCat) → IsCategoryListing raw →
    (category_fault raw ≡ None → Filled raw (filled_category raw) × IsCategory (filled_category raw)) ×
    ((k : Category) → Filled raw k → IsCategory k → (category_fault raw ≡ None) × (k ≡ filled_category raw))
