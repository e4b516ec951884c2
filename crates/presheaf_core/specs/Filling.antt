-- Restrictions that are filled arrow by arrow, and the search for the pair that fills one.
use Rattle.std.specs.Prelude.{◌≡◌, ℕ, ◌<◌, ◌⊎◌, cond, not, ltb, List, [], map, length, get_or, Option, Some, None}
use Rattle.std.specs.List.{range_with_len}
use Rattle.finite_lists.specs.First.{first, some_if}
use Rattle.topos_model.specs.declared.raw.RawFunctor.{RawFunctor}
use Rattle.topos_model.specs.declared.fault.Fault.{Fault}
use Rattle.topos_model.specs.categories.Category.{Category, into, dom, cod}
use Rattle.topos_model.specs.categories.Filling.{fills, filling_pair}
use Rattle.topos_model.specs.presheaves.PresheafFaults.{has_entry, restriction_fault}

-- g, h, if they fill f
abbrev pub pair_at : Category → ℕ → ℕ → ℕ → Option (ℕ × ℕ)
pair_at k f g h = some_if (fills k f g h) (g, h)

-- the first pair that fills f and begins with g
unfoldable pub pair_from : Category → ℕ → ℕ → Option (ℕ × ℕ)
pair_from k f g = first (pair_at k f g) (into k (dom k g))

-- the fault of the restriction along f, which an identity has not
abbrev pub row_fault : Category → RawFunctor → ℕ → Option Fault
row_fault k raw f = cond (ltb f k.objects) None (restriction_fault k raw f)

-- one element at the domain of f for each element at its codomain
pub record IsRowAlong (k : Category) (raw : RawFunctor) (f : ℕ) (row : List ℕ) : Type 0 where
  pub total : length row ≡ get_or raw.sizes (cod k f) 0
  pub within : (x : ℕ) → x < get_or raw.sizes (cod k f) 0 → get_or row x 0 < get_or raw.sizes (dom k f) 0

-- such rows for the first n arrows
pub record AreRowsBelow (k : Category) (raw : RawFunctor) (n : ℕ) (rows : List (List ℕ)) : Type 0 where
  pub count : length rows ≡ n
  pub each : (f : ℕ) → f < n → IsRowAlong k raw f (get_or rows f [])

-- the first of so many elements without an entry
abbrev pub missing_entry : List (ℕ × ℕ) → ℕ → Option ℕ
missing_entry entries size = first (λ x. some_if (not (has_entry entries x)) x) (range_with_len 0 size)

-- where f is filled by (g, h), the row of g has so many elements, and that of h has one for each of its numbers
abbrev pub IsPairAlong : Category → List (List ℕ) → ℕ → ℕ → Type 0
IsPairAlong k rows size f =
    (p : ℕ × ℕ) → filling_pair k f ≡ Some p →
    (p.0 < f) × (p.1 < f) × (length (get_or rows p.0 []) ≡ size) × ((x : ℕ) → x < size → get_or (get_or rows p.0 []) x 0 < length (get_or rows p.1 []))

-- x.f = (x.g).h for each of so many x, where f is filled by (g, h); or there is no x
abbrev pub IsComposedRow : Category → List (List ℕ) → ℕ → ℕ → List ℕ → Type 0
IsComposedRow k rows size f row =
    ((size ≡ 0) × (row ≡ [])) ⊎
    ((p : ℕ × ℕ) × (filling_pair k f ≡ Some p) × (row ≡ map (λ x. get_or (get_or rows p.1 []) (get_or (get_or rows p.0 []) x 0) 0) (range_with_len 0 size)))
