-- Rows that are found, behind one another.
use Rattle.std.specs.Prelude.{◌≡◌, ℕ, ◌<◌, ◌≤◌, true, false, List, length, take, flat_map, Option, MatchOption}
use Rattle.std.specs.declared.cmp.Ordering.{Ordering}
use Rattle.std.specs.declared.cmp.Ordering.TheVariants.{Less, Equal, Greater}
use Rattle.finite_lists.specs.Members.{In}
use Rattle.finite_lists.specs.Rising.{NumbersBelow}
use Rattle.natural_search.specs.declared.rows.FoundRows.{FoundRows}
use Rattle.natural_search.specs.declared.rows.FirstRows.{FirstRows}

-- all numbers of rows in one line
abbrev pub joined : List (List ℕ) → List ℕ
joined rows = flat_map (λ row. row) rows

-- the rows of a list, and how many there are
pub record AreRows (all : List (List ℕ)) (found : FoundRows) : Type 0 where
  pub count : found.count ≡ length all
  pub numbers : found.numbers ≡ joined all

-- the first rows, so many at most, and whether there are more
pub record AreFirst (room : ℕ) (all : List (List ℕ)) (first : FirstRows) : Type 0 where
  pub rows : AreRows (take room all) first.rows
  pub more : first.more ≡ true → room < length all
  pub no_more : first.more ≡ false → length all ≤ room

-- all rows, where there are no more than the room
abbrev pub AreAll : ℕ → List (List ℕ) → Option FoundRows → Type 0
AreAll room all found = MatchOption found (room < length all) (λ rows. AreRows all rows × (length all ≤ room))

-- all rows have so many numbers
abbrev pub AreLong : ℕ → List (List ℕ) → Type 0
AreLong w all = (row : List ℕ) → In all row → length row ≡ w

-- which of two rows is below the other
abbrev pub IsCompared : List ℕ → List ℕ → Ordering → Type 0
IsCompared row other Less = NumbersBelow row other
IsCompared row other Equal = row ≡ other
IsCompared row other Greater = NumbersBelow other row

-- how a place stands to another
abbrev pub IsPlaced : ℕ → ℕ → Ordering → Type 0
IsPlaced m n Less = m < n
IsPlaced m n Equal = m ≡ n
IsPlaced m n Greater = n < m
