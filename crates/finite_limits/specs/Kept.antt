-- The numbers below a count that pass a test, in order, and for each number how many of them stand before it.
use Rattle.std.specs.Prelude.{◌≡◌, ℕ, ◌<◌, Bool, true, false, List, map, length, get_or, filter}
use Rattle.std.specs.List.{range_with_len}
use Rattle.topos_model.specs.categories.Category.{Category}
use Rattle.topos_model.specs.presheaves.Maps.{Components, component, after_component}

abbrev pub passing : (ℕ → Bool) → ℕ → List ℕ
passing test n = filter test (range_with_len 0 n)

abbrev pub passing_before : (ℕ → Bool) → ℕ → List ℕ
passing_before test n = map (λ x. length (passing test x)) (range_with_len 0 n)

-- x stands in the list at the place t
pub record IsPlace (i : List ℕ) (t x : ℕ) : Type 0 where
  pub within : t < length i
  pub is : get_or i t 0 ≡ x

-- i has the numbers below n with the property, in order, and r the place of each of them
pub record AreKept (P : ℕ → Type 0) (n : ℕ) (i r : List ℕ) : Type 0 where
  pub ranks : length r ≡ n
  pub within : (t : ℕ) → t < length i → get_or i t 0 < n
  pub kept : (t : ℕ) → t < length i → P (get_or i t 0)
  pub rise : (s t : ℕ) → s < t → t < length i → get_or i s 0 < get_or i t 0
  pub rank : (x : ℕ) → x < n → P x → IsPlace i (get_or r x 0) x

-- at each of so many objects
pub record AreKeptRows (P : ℕ → ℕ → Type 0) (count : ℕ) (sizes : List ℕ) (i r : Components) : Type 0 where
  pub elements : length i ≡ count
  pub ranks : length r ≡ count
  pub each : (c : ℕ) → c < count → AreKept (P c) (get_or sizes c 0) (component i c) (component r c)

-- exactly the values of the first so many numbers are marked
pub record AreValuesMarked (count : ℕ) (m : List ℕ) (n : ℕ) (marks : List Bool) : Type 0 where
  pub places : length marks ≡ n
  pub marked : (x : ℕ) → x < count → get_or marks (get_or m x 0) false ≡ true
  pub value : (y : ℕ) → get_or marks y false ≡ true → (x : ℕ) × (x < count) × (get_or m x 0 ≡ y)

-- y is a value
abbrev pub IsValue : List ℕ → ℕ → Type 0
IsValue m y = (x : ℕ) × (x < length m) × (get_or m x 0 ≡ y)

-- the place of each value of m
abbrev pub value_places : Category → Components → Components → Components
value_places k r m = map (λ c. after_component (component r c) (component m c)) (range_with_len 0 k.objects)
