-- Categories and presheaves from what is listed of them, what is left out being filled (Categorical Preliminaries, I).
use Rattle.std.specs.Prelude.{◌≡◌, ℕ, zero, suc, ◌<◌, ◌≤◌, ◌⊎◌, Bool, false, cond, ◌&&◌, ◌||◌, List, [], ◌∷◌, ◌++◌, map, length, get_or, eqb, ltb, leb, filter, Option, Some, None}
use Rattle.std.specs.List.{list_any, range_with_len}
use Rattle.finite_lists.specs.Members.{In, Distinct}
use Rattle.finite_lists.specs.First.{first, some_if}
use Rattle.topos_model.specs.declared.raw.RawCat.{RawCat}
use Rattle.topos_model.specs.declared.raw.RawAlong.{RawAlong}
use Rattle.topos_model.specs.declared.raw.RawFunctor.{RawFunctor}
use Rattle.topos_model.specs.categories.Category.{Category, dom, cod, compose, composite}
use Rattle.topos_model.specs.types.Types.{Presheaf}
use Rattle.topos_model.specs.Laws.{IsInto, AreComposable, act, size}
use Rattle.topos_model.specs.categories.Listed.{all_ends, composable, listed_row}

abbrev pub domain_of : List (ℕ × ℕ) → ℕ → ℕ
domain_of ends f = (get_or ends f (0, 0)).0

abbrev pub codomain_of : List (ℕ × ℕ) → ℕ → ℕ
codomain_of ends f = (get_or ends f (0, 0)).1

-- the arrows with the ends of g.f
unfoldable pub candidates : List (ℕ × ℕ) → ℕ → ℕ → List ℕ
candidates ends g f =
    filter (λ h. eqb (domain_of ends h) (domain_of ends f) && eqb (codomain_of ends h) (codomain_of ends g)) (range_with_len 0 (length ends))

-- whether g.f is listed
unfoldable pub has_composite : List (ℕ × ℕ × ℕ) → ℕ → ℕ → Bool
has_composite listed g f = list_any (λ e. eqb e.0 g && eqb e.1 f) listed

-- g.f: identities are neutral; other composites are listed, or else the only candidate
unfoldable pub filled_composite : RawCat → ℕ → ℕ → ℕ
filled_composite raw g f =
    cond (ltb g raw.objects) f (cond (ltb f raw.objects) g
    (cond (has_composite raw.listed g f) (composite raw.listed g f) (get_or (candidates (all_ends raw) g f) 0 0)))

unfoldable pub filled_category : RawCat → Category
filled_category raw = record {
  objects = raw.objects;
  ends = all_ends raw;
  table = map (λ p. (p.0, p.1, filled_composite raw p.0 p.1)) (composable (all_ends raw));
}

-- k has the listed objects, arrows and composites, and what is left out of them is filled
pub record Filled (raw : RawCat) (k : Category) : Type 0 where
  pub objects : k.objects ≡ raw.objects
  -- the identities in the order of the objects, then the declared arrows
  pub ends : k.ends ≡ all_ends raw
  pub left_neutral : (f : ℕ) → f < length k.ends → In k.table (cod k f, f, f)
  pub right_neutral : (f : ℕ) → f < length k.ends → In k.table (f, dom k f, f)
  -- no pair is listed twice, and listed composites are those of k
  pub once : Distinct {A = ℕ × ℕ} (map (λ e. (e.0, e.1)) raw.listed)
  pub listed : (e : ℕ × ℕ × ℕ) → In raw.listed e → In k.table e
  -- each other pair has exactly one candidate, its composite
  pub only : (g f : ℕ) → AreComposable k g f → k.objects ≤ g → k.objects ≤ f → has_composite raw.listed g f ≡ false →
      (h : ℕ) × (candidates k.ends g f ≡ h ∷ []) × In k.table (g, f, h)

-- whether a restriction along f is listed
unfoldable pub has_restriction : List RawAlong → ℕ → Bool
has_restriction along f = list_any (λ a. eqb a.arrow f) along

-- whether f = g.h, for declared arrows g and h before f
unfoldable pub fills : Category → ℕ → ℕ → ℕ → Bool
fills k f g h = leb k.objects g && ltb g f && leb k.objects h && ltb h f && eqb (compose k g h) f

-- the first (g, h) that fills f
unfoldable pub filling_pair : Category → ℕ → Option (ℕ × ℕ)
filling_pair k f = first (λ p. some_if (fills k f p.0 p.1) p) (composable k.ends)

-- x.f = (x.g).h for each x at the codomain of f, where f is filled by (g, h)
unfoldable pub composite_row : Category → Presheaf → ℕ → ℕ × ℕ → List ℕ
composite_row k X f p = map (λ x. act X p.1 (act X p.0 x)) (range_with_len 0 (size X (cod k f)))

-- the restrictions along f, from those along the arrows before f
unfoldable pub filled_row : Category → RawFunctor → List (List ℕ) → ℕ → List ℕ
filled_row k raw before f =
    cond (ltb f k.objects || has_restriction raw.along f) (listed_row k raw f)
    (elim (filling_pair k f) [ Some p ↦ composite_row k (record { sizes = raw.sizes; along = before }) f p | None ↦ [] ])

-- rows with that of f put last
abbrev pub with_row : Category → RawFunctor → List (List ℕ) → ℕ → List (List ℕ)
with_row k raw before f = before ++ filled_row k raw before f ∷ []

-- the restrictions along the first n arrows
unfoldable pub filled_rows : Category → RawFunctor → ℕ → List (List ℕ)
filled_rows k raw zero = []
filled_rows k raw (suc n) = with_row k raw (filled_rows k raw n) n

unfoldable pub filled_presheaf : Category → RawFunctor → Presheaf
filled_presheaf k raw = record { sizes = raw.sizes; along = filled_rows k raw (length k.ends) }

-- X has the listed elements and restrictions, and what is left out of them is filled
pub record IsFilledFunctor (k : Category) (raw : RawFunctor) (X : Presheaf) : Type 0 where
  pub sizes : X.sizes ≡ raw.sizes
  pub arrows : length X.along ≡ length k.ends
  pub total : (c f : ℕ) → IsInto k c f → length (get_or X.along f []) ≡ size X c
  pub identity : (c x : ℕ) → c < k.objects → x < size X c → act X c x ≡ x
  pub listed : (a : RawAlong) → In raw.along a → (x : ℕ) → x < size X (cod k a.arrow) → In a.entries (x, act X a.arrow x)
  pub filled : (f x : ℕ) → k.objects ≤ f → f < length k.ends → has_restriction raw.along f ≡ false → x < size X (cod k f) →
      (p : ℕ × ℕ) × (filling_pair k f ≡ Some p) × (act X f x ≡ act X p.1 (act X p.0 x))

-- f = g.h, for declared arrows g and h before f
abbrev pub IsFilling : Category → ℕ → ℕ × ℕ → Type 0
IsFilling k f p = AreComposable k p.0 p.1 × (k.objects ≤ p.0) × (p.0 < f) × (k.objects ≤ p.1) × (p.1 < f) × (compose k p.0 p.1 ≡ f)

-- the filling pair is lexicographically the first of all such pairs
abbrev pub FillingPairsAreFirst : Type 0
FillingPairsAreFirst =
    (k : Category) (f : ℕ) →
    ((p : ℕ × ℕ) → filling_pair k f ≡ Some p → IsFilling k f p) ×
    ((q : ℕ × ℕ) → IsFilling k f q →
    (p : ℕ × ℕ) × (filling_pair k f ≡ Some p) × ((p.0 < q.0) ⊎ ((p.0 ≡ q.0) × (p.1 ≤ q.1))))
