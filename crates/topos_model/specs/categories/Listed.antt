-- Categories and presheaves from what is listed of them.
use Rattle.std.specs.Prelude.{ℕ, Bool, cond, List, [], ◌∷◌, ◌++◌, map, length, get_or, eqb, ltb, filter, flat_map}
use Rattle.std.specs.List.{range_with_len}
use Rattle.topos_model.specs.declared.raw.RawCat.{RawCat}
use Rattle.topos_model.specs.declared.raw.RawAlong.{RawAlong}
use Rattle.topos_model.specs.declared.raw.RawFunctor.{RawFunctor}
use Rattle.topos_model.specs.categories.Category.{Category, composite, cod, arrows}
use Rattle.topos_model.specs.types.Types.{Presheaf}

-- the ends of all arrows, the identities first
unfoldable pub all_ends : RawCat → List (ℕ × ℕ)
all_ends raw = map (λ c. (c, c)) (range_with_len 0 raw.objects) ++ raw.ends

-- whether f ends where g begins
abbrev pub meet : List (ℕ × ℕ) → ℕ → ℕ → Bool
meet ends g f = eqb (get_or ends f (0, 0)).1 (get_or ends g (0, 0)).0

-- all composable pairs (g, f), lexicographic
unfoldable pub composable : List (ℕ × ℕ) → List (ℕ × ℕ)
composable ends = flat_map (λ g. map (λ f. (g, f)) (filter (meet ends g) (range_with_len 0 (length ends)))) (range_with_len 0 (length ends))

-- g.f: identities are neutral, other composites are listed
unfoldable pub listed_composite : RawCat → ℕ → ℕ → ℕ
listed_composite raw g f = cond (ltb g raw.objects) f (cond (ltb f raw.objects) g (composite raw.listed g f))

unfoldable pub listed_category : RawCat → Category
listed_category raw = record {
  objects = raw.objects;
  ends = all_ends raw;
  table = map (λ p. (p.0, p.1, listed_composite raw p.0 p.1)) (composable (all_ends raw));
}

-- the number that is listed for x
abbrev pub entry_at : List (ℕ × ℕ) → ℕ → ℕ
entry_at [] x = 0
entry_at (e ∷ rest) x = cond (eqb e.0 x) e.1 (entry_at rest x)

-- the entries that are listed along f
abbrev pub entries_along : List RawAlong → ℕ → List (ℕ × ℕ)
entries_along [] f = []
entries_along (a ∷ rest) f = cond (eqb a.arrow f) a.entries (entries_along rest f)

-- the restrictions of the elements at the codomain of f: along an identity the elements, else as they are listed
unfoldable pub listed_row : Category → RawFunctor → ℕ → List ℕ
listed_row k raw f =
    let elements = range_with_len 0 (get_or raw.sizes (cod k f) 0) in
    cond (ltb f k.objects) elements (map (entry_at (entries_along raw.along f)) elements)

unfoldable pub listed_presheaf : Category → RawFunctor → Presheaf
listed_presheaf k raw = record { sizes = raw.sizes; along = map (listed_row k raw) (arrows k) }
