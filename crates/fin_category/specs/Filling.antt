-- Square tables of composites, filled row by row.
use Rattle.std.specs.Prelude.{◌≡◌, ℕ, ◌*◌, ◌<◌, not, true, List, [], ◌∷◌, length, Option, Some, None}
use Rattle.finite_lists.specs.First.{first, some_if}
use Rattle.topos_model.specs.declared.raw.RawCat.{RawCat}
use Rattle.topos_model.specs.categories.Listed.{all_ends, meet}
use Rattle.topos_model.specs.categories.Filling.{domain_of, filled_composite}
use Rattle.topos_model.specs.categories.CategoryFaults.{is_determined}
use Rattle.fin_category.specs.Tables.{entry, ending_at}

-- x, where no member follows
abbrev pub sole_before : ℕ → List ℕ → Option ℕ
sole_before x [] = Some x
sole_before x (y ∷ ys) = None

-- the only member of a list
abbrev pub sole : List ℕ → Option ℕ
sole [] = None
sole (x ∷ xs) = sole_before x xs

-- g.f, where it is determined
unfoldable pub determined_composite : RawCat → ℕ → ℕ → Option ℕ
determined_composite raw g f = some_if (is_determined raw g f) (filled_composite raw g f)

-- f, where g.f is not determined
abbrev pub undetermined : RawCat → ℕ → ℕ → Option ℕ
undetermined raw g f = some_if (not (is_determined raw g f)) f

-- the first f for which g.f is not determined
unfoldable pub first_undetermined : RawCat → ℕ → Option ℕ
first_undetermined raw g = first (undetermined raw g) (ending_at (all_ends raw) (domain_of (all_ends raw) g))

-- row g has the composites of g
abbrev pub HoldsRow : RawCat → List ℕ → ℕ → Type 0
HoldsRow raw square g = (f : ℕ) → f < length (all_ends raw) → meet (all_ends raw) g f ≡ true → entry square (length (all_ends raw)) g f ≡ filled_composite raw g f

-- two tables with n rows of n entries that differ in row g alone
pub record IsSameButRow (n g : ℕ) (square other : List ℕ) : Type 0 where
  pub places : length other ≡ length square
  pub entries : (i j : ℕ) → (i ≡ g → ⊥) → j < n → entry other n i j ≡ entry square n i j

-- a table with the composite of each pair that meets
pub record HoldsComposites (raw : RawCat) (square : List ℕ) : Type 0 where
  pub places : length square ≡ length (all_ends raw) * length (all_ends raw)
  pub rows : (g : ℕ) → g < length (all_ends raw) → HoldsRow raw square g
