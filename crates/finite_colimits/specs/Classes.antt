-- Classes of the numbers below a count under the pairs (m(x), n(x)): q numbers the classes, and r has their least members.
use Rattle.std.specs.Prelude.{◌≡◌, ℕ, ◌<◌, ◌≤◌, List, [], map, length, get_or}
use Rattle.std.specs.List.{range_with_len}
use Rattle.topos_model.specs.categories.Category.{Category, dom, cod}
use Rattle.topos_model.specs.types.Types.{Presheaf}
use Rattle.topos_model.specs.Laws.{IsInto, act, size}
use Rattle.topos_model.specs.presheaves.Maps.{Components, component, apply}

-- v takes both members of each of the first so many pairs to one value
abbrev pub JoinsFirst : ℕ → List ℕ → List ℕ → (ℕ → ℕ) → Type 0
JoinsFirst count m n v = (x : ℕ) → x < count → v (get_or m x 0) ≡ v (get_or n x 0)

-- and of every pair
abbrev pub Joins : List ℕ → List ℕ → (ℕ → ℕ) → Type 0
Joins m n v = JoinsFirst (length m) m n v

-- two numbers are in one class exactly if every v that joins the pairs takes them to one value
pub record IsClasses (m n : List ℕ) (count : ℕ) (q r : List ℕ) : Type 0 where
  pub numbers : length q ≡ count
  pub within : (y : ℕ) → y < count → get_or q y 0 < length r
  pub member : (t : ℕ) → t < length r → get_or r t 0 < count
  pub least_of : (t : ℕ) → t < length r → get_or q (get_or r t 0) 0 ≡ t
  pub least : (t y : ℕ) → t < length r → y < count → get_or q y 0 ≡ t → get_or r t 0 ≤ y
  pub rise : (s t : ℕ) → s < t → t < length r → get_or r s 0 < get_or r t 0
  pub joined : Joins m n (λ y. get_or q y 0)
  pub sound : (v : ℕ → ℕ) → Joins m n v → (y : ℕ) → y < count → v y ≡ v (get_or r (get_or q y 0) 0)

-- Z is the presheaf of the classes: a class is restricted by its least member
pub record IsOfClasses (k : Category) (Y : Presheaf) (q r : Components) (Z : Presheaf) : Type 0 where
  pub objects : length Z.sizes ≡ k.objects
  pub arrows : length Z.along ≡ length k.ends
  pub sizes : (c : ℕ) → c < k.objects → size Z c ≡ length (component r c)
  pub total : (c f : ℕ) → IsInto k c f → length (get_or Z.along f []) ≡ length (component r c)
  pub is : (c f t : ℕ) → IsInto k c f → t < length (component r c) → act Z f t ≡ apply q (dom k f) (act Y f (apply r c t))

-- at each of so many objects the classes under the pairs of the components
pub record AreClassRows (count : ℕ) (sizes : List ℕ) (m n q r : Components) : Type 0 where
  pub numbers : length q ≡ count
  pub least : length r ≡ count
  pub each : (c : ℕ) → c < count → IsClasses (component m c) (component n c) (get_or sizes c 0) (component q c) (component r c)

-- the restrictions of the classes along f
abbrev pub class_row : Category → Presheaf → Components → Components → ℕ → List ℕ
class_row k Y q r f = map (λ y. apply q (dom k f) (act Y f y)) (component r (cod k f))

-- the presheaf of the classes
abbrev pub class_presheaf : Category → Presheaf → Components → Components → Presheaf
class_presheaf k Y q r = record { sizes = map length r; along = map (class_row k Y q r) (range_with_len 0 (length k.ends)) }
