-- Sets of places in the order "without the first place, then with it".
use Rattle.std.specs.Prelude.{◌≡◌, ℕ, suc, ◌<◌, Bool, true, false, cond, List, [], ◌∷◌, get_or, map}
use Rattle.closed_sets.specs.Closed.{same_bits}

-- at the first place where they differ, a has not what b has
abbrev pub Precedes : List Bool → List Bool → Type 0
Precedes a b = (i : ℕ) × (get_or a i false ≡ false) × (get_or b i false ≡ true) × ((j : ℕ) → j < i → get_or a j false ≡ get_or b j false)

-- which of two sets precedes, by what the second has at the first place where they differ
abbrev pub IsOrdered : Bool → List Bool → List Bool → Type 0
IsOrdered true a b = Precedes a b
IsOrdered false a b = Precedes b a

-- a set read along a row of its places
abbrev pub read_along : List ℕ → List Bool → List Bool
read_along row a = map (λ n. get_or a n false) row

-- the number of a set in a list
unfoldable pub place_in : List (List Bool) → List Bool → ℕ
place_in [] a = 0
place_in (b ∷ rows) a = cond (same_bits b a) 0 (suc (place_in rows a))
