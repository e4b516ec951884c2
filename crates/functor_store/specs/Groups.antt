-- A list in groups: each group begins where the one before ends.
use Rattle.std.specs.Prelude.{◌≡◌, ℕ, zero, suc, ◌<◌, ◌≤◌, List, [], ◌∷◌, length, slice_range, get_or}

-- the groups that end at the given places, the first of which begins at `from`
unfoldable pub groups : {X : Type 0} → ℕ → List ℕ → List X → List (List X)
groups from [] xs = []
groups from (e ∷ es) xs = slice_range xs from e ∷ groups e es xs

-- the places rise from `from` to at most n
unfoldable pub IsCutTo : ℕ → List ℕ → ℕ → Type 0
IsCutTo from [] n = from ≤ n
IsCutTo from (e ∷ es) n = (from ≤ e) × IsCutTo e es n

-- where the group c begins
abbrev pub start : ℕ → List ℕ → ℕ → ℕ
start from es c = get_or (from ∷ es) c 0

-- the last place, or `from`
unfoldable pub last : ℕ → List ℕ → ℕ
last from [] = from
last from (e ∷ es) = last e es

-- all places from the group c on are n
unfoldable pub raised : ℕ → List ℕ → ℕ → List ℕ
raised c [] n = []
raised zero (e ∷ es) n = n ∷ raised zero es n
raised (suc c) (e ∷ es) n = e ∷ raised c es n

-- all numbers from one place to another are n, and the others are as before
pub record IsFilled (from to n : ℕ) (old new : List ℕ) : Type 0 where
  pub length_is : length new ≡ length old
  pub below : (k : ℕ) → k < from → get_or new k 0 ≡ get_or old k 0
  pub between : (k : ℕ) → from ≤ k → k < to → get_or new k 0 ≡ n
  pub above : (k : ℕ) → to ≤ k → get_or new k 0 ≡ get_or old k 0
