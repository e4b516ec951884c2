-- Tables: for each object a row with one entry for each tuple.
use Rattle.std.specs.Prelude.{◌≡◌, ℕ, ◌<◌, ◌*◌, Bool, false, ◌&&◌, ◌||◌, not, eqb, List, [], map, length, get_or, take, drop}
use Rattle.std.specs.List.{list_any, list_all, count_by, range_with_len}
use Rattle.truth_tables.specs.declared.connectives.Connective.{Connective}
use Rattle.truth_tables.specs.declared.connectives.Connective.TheVariants.{And, Or, Implies}
use Rattle.truth_tables.specs.declared.quantifiers.Quantifier.{Quantifier}
use Rattle.truth_tables.specs.declared.quantifiers.Quantifier.TheVariants.{Some, Every, One}

-- the row of the first so many entries
abbrev pub row : {A : Type 0} → ℕ → (ℕ → A) → List A
row size entry = map entry (range_with_len 0 size)

-- for each object the row of its tuples' entries, the numbers of tuples being given
unfoldable pub table : {A : Type 0} → List ℕ → (ℕ → ℕ → A) → List (List A)
table sizes entry = row (length sizes) (λ c. row (get_or sizes c 0) (entry c))

-- one entry for each tuple
pub record IsOver {A : Type 0} (sizes : List ℕ) (t : List (List A)) : Type 0 where
  pub objects : length t ≡ length sizes
  pub tuples : (c : ℕ) → c < length sizes → length (get_or t c []) ≡ get_or sizes c 0

-- there is an entry for the tuple number i at c
abbrev pub IsEntry : {A : Type 0} → List (List A) → ℕ → ℕ → Type 0
IsEntry t c i = (c < length t) × (i < length (get_or t c []))

-- a width for each object, which is not 0 where there are tuples
pub record HasWidths (sizes widths : List ℕ) : Type 0 where
  pub objects : length widths ≡ length sizes
  pub some : (c : ℕ) → c < length sizes → 0 < get_or sizes c 0 → 0 < get_or widths c 0

-- the truth value, and the number, of a tuple
abbrev pub bit : List (List Bool) → ℕ → ℕ → Bool
bit t c i = get_or (get_or t c []) i false

abbrev pub number : List (List ℕ) → ℕ → ℕ → ℕ
number t c i = get_or (get_or t c []) i 0

abbrev pub connected : Connective → Bool → Bool → Bool
connected And a b = a && b
connected Or a b = a || b
connected Implies a b = not a || b

-- the entries of the tuples that put one of so many elements behind the tuple i
abbrev pub block : {A : Type 0} → ℕ → ℕ → List A → List A
block width i entries = take width (drop (i * width) entries)

unfoldable pub decided : Quantifier → List Bool → Bool
decided Some truths = list_any (λ truth. truth) truths
decided Every truths = list_all (λ truth. truth) truths
decided One truths = eqb (count_by (λ truth. truth) truths) 1

-- the truth value of the restriction along the arrow at place j
abbrev pub along : List (List Bool) → List ℕ → List ℕ → ℕ → Bool
along truths sources restrictions j = bit truths (get_or sources j 0) (get_or restrictions j 0)
