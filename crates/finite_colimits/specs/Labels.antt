-- Labels of the numbers below a count: each number has a label, at most itself, and the labels lead to the least number of its class.
use Rattle.std.specs.Prelude.{◌≡◌, ℕ, ◌<◌, ◌≤◌, List, length, get_or}
use Rattle.finite_colimits.specs.Classes.{JoinsFirst}

-- v takes each number and its label to one value
abbrev pub Follows : List ℕ → (ℕ → ℕ) → Type 0
Follows l v = (y : ℕ) → y < length l → v y ≡ v (get_or l y 0)

-- no label is above its number
abbrev pub AreLow : List ℕ → Type 0
AreLow l = (y : ℕ) → y < length l → get_or l y 0 ≤ y

-- the labels changed, and the classes did not; a number that was its own label still is
pub record AreShorter (old new : List ℕ) : Type 0 where
  pub places : length new ≡ length old
  pub low : AreLow new
  pub own : (y : ℕ) → y < length old → get_or old y 0 ≡ y → get_or new y 0 ≡ y
  pub forth : (v : ℕ → ℕ) → Follows old v → Follows new v
  pub back : (v : ℕ → ℕ) → Follows new v → Follows old v

-- r is the last of the labels to which y leads
pub record IsRoot (l : List ℕ) (y r : ℕ) : Type 0 where
  pub low : r ≤ y
  pub own : get_or l r 0 ≡ r
  pub reached : (v : ℕ → ℕ) → Follows l v → v y ≡ v r

-- the classes of a and b, and no others, became one
pub record AreJoined (old new : List ℕ) (a b : ℕ) : Type 0 where
  pub places : length new ≡ length old
  pub low : AreLow new
  pub forth : (v : ℕ → ℕ) → Follows old v → v a ≡ v b → Follows new v
  pub back : (v : ℕ → ℕ) → Follows new v → Follows old v
  pub same : (v : ℕ → ℕ) → Follows new v → v a ≡ v b

-- the labels of the numbers below a count have the classes of the first so many pairs
pub record HaveClasses (pairs : ℕ) (m n : List ℕ) (count : ℕ) (l : List ℕ) : Type 0 where
  pub places : length l ≡ count
  pub low : AreLow l
  pub sound : (v : ℕ → ℕ) → JoinsFirst pairs m n v → Follows l v
  pub joined : (v : ℕ → ℕ) → Follows l v → JoinsFirst pairs m n v

-- the first so many numbers have class numbers q, and r has the least member of each class
pub record AreNumbered (l : List ℕ) (count : ℕ) (q r : List ℕ) : Type 0 where
  pub numbers : length q ≡ count
  pub few : length r ≤ count
  pub within : (y : ℕ) → y < count → get_or q y 0 < length r
  pub member : (t : ℕ) → t < length r → get_or r t 0 < count
  pub least_of : (t : ℕ) → t < length r → get_or q (get_or r t 0) 0 ≡ t
  pub least : (t y : ℕ) → t < length r → y < count → get_or q y 0 ≡ t → get_or r t 0 ≤ y
  pub rise : (s t : ℕ) → s < t → t < length r → get_or r s 0 < get_or r t 0
  pub follows : (y : ℕ) → y < count → get_or q y 0 ≡ get_or q (get_or l y 0) 0
  pub sound : (v : ℕ → ℕ) → Follows l v → (y : ℕ) → y < count → v y ≡ v (get_or r (get_or q y 0) 0)
