-- The elements of X and then those of Y.
use Rattle.std.specs.Prelude.{◌≡◌, ℕ, ◌+◌, ◌^◌, ◌<◌, List, [], ◌++◌, map, length, get_or}
use Rattle.std.specs.List.{range_with_len}
use Rattle.topos_model.specs.categories.Category.{Category, dom}
use Rattle.topos_model.specs.types.Types.{Presheaf}
use Rattle.topos_model.specs.Laws.{IsInto, act, size}
use Rattle.topos_model.specs.presheaves.Maps.{Components, component, apply}

-- at each object the numbers x and then size X + y
pub record IsSum (k : Category) (X Y Z : Presheaf) : Type 0 where
  pub objects : length Z.sizes ≡ k.objects
  pub arrows : length Z.along ≡ length k.ends
  pub sizes : (c : ℕ) → c < k.objects → size Z c ≡ size X c + size Y c
  pub total : (c f : ℕ) → IsInto k c f → length (get_or Z.along f []) ≡ size X c + size Y c
  pub first : (c f x : ℕ) → IsInto k c f → x < size X c → act Z f x ≡ act X f x
  pub second : (c f y : ℕ) → IsInto k c f → y < size Y c → act Z f (size X c + y) ≡ size X (dom k f) + act Y f y

-- each element of X goes to the number that a function gives
pub record IsGivenBy (k : Category) (X : Presheaf) (number : ℕ → ℕ → ℕ) (i : Components) : Type 0 where
  pub objects : length i ≡ k.objects
  pub total : (c : ℕ) → c < k.objects → length (component i c) ≡ size X c
  pub is : (c x : ℕ) → c < k.objects → x < size X c → apply i c x ≡ number c x

-- no element at any object
pub record IsEmpty (k : Category) (Z : Presheaf) : Type 0 where
  pub objects : length Z.sizes ≡ k.objects
  pub arrows : length Z.along ≡ length k.ends
  pub sizes : (c : ℕ) → c < k.objects → size Z c ≡ 0
  pub total : (f : ℕ) → f < length k.ends → length (get_or Z.along f []) ≡ 0

-- the sizes of X and Y together
abbrev pub sum_sizes : Category → Presheaf → Presheaf → List ℕ
sum_sizes k X Y = map (λ c. size X c + size Y c) (range_with_len 0 k.objects)

-- the restrictions along f
abbrev pub sum_row : Category → Presheaf → Presheaf → ℕ → List ℕ
sum_row k X Y f = get_or X.along f [] ++ map (λ y. size X (dom k f) + y) (get_or Y.along f [])

-- the presheaf of the elements of X and then those of Y
abbrev pub sum_presheaf : Category → Presheaf → Presheaf → Presheaf
sum_presheaf k X Y = record { sizes = sum_sizes k X Y; along = map (sum_row k X Y) (range_with_len 0 (length k.ends)) }

abbrev pub first_inclusion : Category → Presheaf → Components
first_inclusion k X = map (λ c. range_with_len 0 (size X c)) (range_with_len 0 k.objects)

abbrev pub second_inclusion : Category → Presheaf → Presheaf → Components
second_inclusion k X Y = map (λ c. range_with_len (size X c) (size Y c)) (range_with_len 0 k.objects)

-- the elements of both at an object have numbers of 32 bits
abbrev pub AreFew : Category → Presheaf → Presheaf → Type 0
AreFew k X Y = (c : ℕ) → c < k.objects → size X c + size Y c < 2 ^ 32
