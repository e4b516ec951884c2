-- Squares of places, which numbers have to fit, and chains of those with the same key.
use Rattle.std.specs.Prelude.{◌≡◌, ℕ, zero, suc, ◌<◌, ◌≤◌, Bool, max, cond, eqb, List, [], length, get_or}
use Rattle.std.specs.List.{list_all}
use Rattle.natural_search.specs.declared.squares.Square.{Square}

-- the restriction of the number x along f, by the table of all restrictions
abbrev pub act : List (List ℕ) → ℕ → ℕ → ℕ
act along f x = get_or (get_or along f []) x 0

-- the number at the one place is the restriction of that at the other
abbrev pub Fits : List (List ℕ) → List ℕ → Square → Type 0
Fits along values s = get_or values s.restricted 0 ≡ act along s.arrow (get_or values s.element 0)

abbrev pub fits : List (List ℕ) → List ℕ → Square → Bool
fits along values s = eqb (get_or values s.restricted 0) (act along s.arrow (get_or values s.element 0))

unfoldable pub is_fitting : List (List ℕ) → List Square → List ℕ → Bool
is_fitting along squares values = list_all (fits along values) squares

-- each square has its arrow among those of the table and its two places among these
pub record AreSquares (along : List (List ℕ)) (places : ℕ) (squares : List Square) : Type 0 where
  pub arrow : (s : ℕ) (d : Square) → s < length squares → (get_or squares s d).arrow < length along
  pub element : (s : ℕ) (d : Square) → s < length squares → (get_or squares s d).element < places
  pub restricted : (s : ℕ) (d : Square) → s < length squares → (get_or squares s d).restricted < places

-- each number below the bound at a square's element has a restriction
abbrev pub AreBounded : List (List ℕ) → List ℕ → List Square → Type 0
AreBounded along bounds squares = (s : ℕ) (d : Square) → s < length squares → get_or bounds (get_or squares s d).element 0 ≤ length (get_or along (get_or squares s d).arrow [])

-- the numbers at the places up to this one have restrictions
abbrev pub AreElements : List (List ℕ) → List Square → List ℕ → ℕ → Type 0
AreElements along squares values place =
    (s : ℕ) (d : Square) → s < length squares → (get_or squares s d).element ≤ place → get_or values (get_or squares s d).element 0 < length (get_or along (get_or squares s d).arrow [])

-- one more than the last index below n whose key is p, and 0 where there is none
unfoldable pub last_before : List ℕ → ℕ → ℕ → ℕ
last_before keys p zero = 0
last_before keys p (suc n) = cond (eqb (get_or keys n 0) p) (suc n) (last_before keys p n)

-- for each key the last index with it, and for each index the last one before it with the same key
pub record AreChains (count : ℕ) (keys heads links : List ℕ) : Type 0 where
  pub first_places : length heads ≡ count
  pub first : (p : ℕ) → p < count → get_or heads p 0 ≡ last_before keys p (length keys)
  pub next_places : length links ≡ length keys
  pub next : (i : ℕ) → i < length keys → get_or links i 0 ≡ last_before keys (get_or keys i 0) i

-- the later one of its two places
abbrev pub later_place : Square → ℕ
later_place s = max s.element s.restricted

-- the place of its element, and that of the restriction
abbrev pub element_of : Square → ℕ
element_of s = s.element

abbrev pub restricted_of : Square → ℕ
restricted_of s = s.restricted
