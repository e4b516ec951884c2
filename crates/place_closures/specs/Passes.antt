-- Closing a set of places by two tables: for each place, those that it moves to, and those that it moves to along the least cover of its stage.
use Rattle.std.specs.Prelude.{◌≡◌, ℕ, ◌<◌, Bool, true, false, ◌||◌, List, [], length, get_or, map, eqb}
use Rattle.std.specs.List.{list_any, list_all, range_with_len}
use Rattle.topos_model.specs.categories.Category.{has}
use Rattle.closed_sets.specs.Ideals.{lowered}

-- whether j moves to k
abbrev pub moves : List (List ℕ) → ℕ → ℕ → Bool
moves below k j = eqb k j || has k (get_or below j [])

-- the places whose cover is in the set
unfoldable pub covered : List (List ℕ) → List Bool → List Bool
covered covers a = map (λ i. list_all (λ j. get_or a j false) (get_or covers i [])) (range_with_len 0 (length a))

-- restriction first, and then covers
unfoldable pub two_passes : List (List ℕ) → List (List ℕ) → List Bool → List Bool
two_passes below covers a = covered covers (lowered (moves below) a)

-- whether the row of a table at a place has another
abbrev pub Has : List (List ℕ) → ℕ → ℕ → Type 0
Has table i j = has j (get_or table i []) ≡ true

-- tables of places that move as pairs of an arrow and an element do
pub record AreTables (below covers : List (List ℕ)) : Type 0 where
  pub rows : length covers ≡ length below
  pub within : (i j : ℕ) → Has below i j → j < length below
  pub itself : (i : ℕ) → i < length below → Has below i i
  pub through : (i j l : ℕ) → Has below i j → Has below j l → Has below i l
  pub covers_below : (i j : ℕ) → Has covers i j → Has below i j
  pub sink : (i j l : ℕ) → Has below i j → Has covers j l → Has covers i l
  -- what a cover has is in the cover of one that it has
  pub split : (i l : ℕ) → Has covers i l → list_any (λ j. has l (get_or covers j [])) (get_or covers i []) ≡ true

-- a set that moves within itself, and one that has each place whose cover it has
abbrev pub IsRestrictionClosed : List (List ℕ) → List Bool → Type 0
IsRestrictionClosed below a = (i j : ℕ) → get_or a i false ≡ true → Has below i j → get_or a j false ≡ true

abbrev pub IsCoverClosed : List (List ℕ) → List Bool → Type 0
IsCoverClosed covers a = (i : ℕ) → i < length a → ((j : ℕ) → Has covers i j → get_or a j false ≡ true) → get_or a i false ≡ true

-- whether a set has the whole cover of a place
abbrev pub HasCover : List (List ℕ) → List Bool → ℕ → Type 0
HasCover covers a k = (l : ℕ) → Has covers k l → get_or a l false ≡ true

-- k is before the end, and the set has it not, though it has its cover
abbrev pub IsMissing : List (List ℕ) → List Bool → ℕ → ℕ → Type 0
IsMissing covers a end k = (k < end) × (get_or a k false ≡ false) × HasCover covers a k

-- for each place those whose row has it
pub record AreTurned (rows turned : List (List ℕ)) : Type 0 where
  pub count : length turned ≡ length rows
  pub within : (j i : ℕ) → Has turned j i → i < length rows
  pub whole : (i j : ℕ) → Has rows i j → Has turned j i
