-- Sets of arrow numbers, as words of 64 bits.
use Rattle.std.specs.Prelude.{◌≡◌, ◌<◌, ℕ, ◌/◌, ◌%◌, Bool, ◌||◌, not, List, [], ◌∷◌, get_or, eqb, filter}
use Rattle.std.specs.List.{range_with_len}
use Rattle.std.specs.Int.{bit_at}
use Rattle.topos_model.specs.categories.Category.{has}
use Rattle.topos_model.specs.statements.Form.{max_arrows}

-- whether a number is in the set
unfoldable pub marked : List ℕ → ℕ → Bool
marked words f = eqb (bit_at (get_or words (f / 64) 0) (f % 64)) 1

-- how many numbers a set may hold; not opened, so that no proof counts to it
unfoldable pub limit : ℕ
limit = max_arrows

-- the members, in order
unfoldable pub members : List ℕ → List ℕ
members words = filter (marked words) (range_with_len 0 limit)

-- the members of either set, in order
unfoldable pub union : List ℕ → List ℕ → List ℕ
union S T = filter (λ f. has f S || has f T) (range_with_len 0 limit)

-- a set and one more number, in order
unfoldable pub added : ℕ → List ℕ → List ℕ
added f S = filter (λ g. eqb g f || has g S) (range_with_len 0 limit)

-- a set and more numbers, in order
unfoldable pub all_added : List ℕ → List ℕ → List ℕ
all_added S [] = S
all_added S (f ∷ fs) = all_added (added f S) fs

-- f is the first number that one of two sets has and the other has not
pub record IsFirstDifference (f : ℕ) (S T : List ℕ) : Type 0 where
  pub within : f < max_arrows
  pub differs : has f S ≡ not (has f T)
  pub before : (g : ℕ) → g < f → has g S ≡ has g T
