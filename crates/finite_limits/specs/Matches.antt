-- The pairs of elements that two maps take to one element, by the elements of each value.
use Rattle.std.specs.Prelude.{◌≡◌, ℕ, ◌+◌, ◌<◌, ◌≤◌, List, map, length, get_or, eqb}
use Rattle.std.specs.List.{range_with_len}
use Rattle.topos_model.specs.categories.Category.{Category}
use Rattle.topos_model.specs.types.Types.{Presheaf}
use Rattle.topos_model.specs.Laws.{size}
use Rattle.topos_model.specs.presheaves.Maps.{Components, component}
use Rattle.finite_limits.specs.Kept.{passing}
use Rattle.finite_limits.specs.Pairs.{seconds}

-- the numbers that n takes to v, in order
abbrev pub with_value : List ℕ → ℕ → List ℕ
with_value n v = passing (λ y. eqb (get_or n y 0) v) (length n)

-- for each number how many before it n takes to its value
abbrev pub places_by_value : List ℕ → List ℕ
places_by_value n = map (λ y. length (passing (λ w. eqb (get_or n w 0) (get_or n y 0)) y)) (range_with_len 0 (length n))

-- how many numbers n takes to each value
abbrev pub value_counts : List ℕ → ℕ → List ℕ
value_counts n values = map (λ v. length (with_value n v)) (range_with_len 0 values)

-- the numbers that n takes to the value of x under m
abbrev pub matching : List ℕ → List ℕ → ℕ → List ℕ
matching m n x = with_value n (get_or m x 0)

-- at each object
abbrev pub match_fibres : Components → Components → ℕ → ℕ → List ℕ
match_fibres m n c = matching (component m c) (component n c)

abbrev pub match_places : Components → ℕ → List ℕ
match_places n c = places_by_value (component n c)

abbrev pub match_sizes : Category → Presheaf → Components → Components → List ℕ
match_sizes k X m n = map (λ c. length (seconds (match_fibres m n c) (size X c))) (range_with_len 0 k.objects)

-- z is the first number from a on that n takes to v, or the length of n where there is none
pub record IsNextWithValue (n : List ℕ) (v a z : ℕ) : Type 0 where
  pub low : a ≤ z
  pub within : z ≤ length n
  pub value : z < length n → get_or n z 0 ≡ v
  pub none : (w : ℕ) → a ≤ w → w < z → get_or n w 0 ≡ v → ⊥

-- of the numbers from a on, heads has the first with each value, and next the one after each with the same value
pub record AreThreads (n : List ℕ) (values a : ℕ) (heads next : List ℕ) : Type 0 where
  pub heads_long : length heads ≡ values
  pub next_long : length next ≡ length n
  pub head : (v : ℕ) → v < values → IsNextWithValue n v a (get_or heads v 0)
  pub follow : (y : ℕ) → a ≤ y → y < length n → IsNextWithValue n (get_or n y 0) (y + 1) (get_or next y 0)
