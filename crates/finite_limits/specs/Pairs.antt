-- Pairs of numbers in lexicographic order: p and q list their parts, and the pair (x, y) stands at the sum of the start of x and the place of y.
use Rattle.std.specs.Prelude.{◌≡◌, ℕ, ◌+◌, ◌*◌, ◌^◌, ◌<◌, ◌⊎◌, List, [], map, length, get_or, replicate}
use Rattle.std.specs.List.{flat_map, range_with_len}
use Rattle.topos_model.specs.categories.Category.{Category, dom, cod}
use Rattle.topos_model.specs.types.Types.{Presheaf}
use Rattle.topos_model.specs.Laws.{IsInto, act, size}
use Rattle.topos_model.specs.presheaves.Maps.{Components, component, apply}
use Rattle.finite_limits.specs.Kept.{IsPlace}

-- the pair (x, y) stands at the place t
pub record IsPairPlace (p q : List ℕ) (t x y : ℕ) : Type 0 where
  pub within : t < length p
  pub first : get_or p t 0 ≡ x
  pub second : get_or q t 0 ≡ y

-- the related pairs of a number below a and one below b
pub record ArePairs (related : ℕ → ℕ → Type 0) (a b : ℕ) (p q s l : List ℕ) : Type 0 where
  pub seconds : length q ≡ length p
  pub starts : length s ≡ a
  pub places : length l ≡ b
  pub first_within : (t : ℕ) → t < length p → get_or p t 0 < a
  pub second_within : (t : ℕ) → t < length p → get_or q t 0 < b
  pub are_related : (t : ℕ) → t < length p → related (get_or p t 0) (get_or q t 0)
  pub rise : (t u : ℕ) → t < u → u < length p → (get_or p t 0 < get_or p u 0) ⊎ ((get_or p t 0 ≡ get_or p u 0) × (get_or q t 0 < get_or q u 0))
  pub number : (x y : ℕ) → x < a → y < b → related x y → IsPairPlace p q (get_or s x 0 + get_or l y 0) x y

-- the fibre of x has the numbers below b that are related to x, in order, each at its place
pub record AreFibres (related : ℕ → ℕ → Type 0) (a b : ℕ) (fibre : ℕ → List ℕ) (l : List ℕ) : Type 0 where
  pub places : length l ≡ b
  pub within : (x i : ℕ) → x < a → i < length (fibre x) → get_or (fibre x) i 0 < b
  pub are_related : (x i : ℕ) → x < a → i < length (fibre x) → related x (get_or (fibre x) i 0)
  pub rise : (x i j : ℕ) → x < a → i < j → j < length (fibre x) → get_or (fibre x) i 0 < get_or (fibre x) j 0
  pub place : (x y : ℕ) → x < a → y < b → related x y → IsPlace (fibre x) (get_or l y 0) y

-- the pairs of the numbers below a and the members of their fibres
abbrev pub firsts : (ℕ → List ℕ) → ℕ → List ℕ
firsts fibre a = flat_map (λ x. replicate (length (fibre x)) x) (range_with_len 0 a)

abbrev pub seconds : (ℕ → List ℕ) → ℕ → List ℕ
seconds fibre a = flat_map fibre (range_with_len 0 a)

abbrev pub starts : (ℕ → List ℕ) → ℕ → List ℕ
starts fibre a = map (λ x. length (seconds fibre x)) (range_with_len 0 a)

-- at each object
abbrev pub first_parts : Category → Presheaf → (ℕ → ℕ → List ℕ) → Components
first_parts k X fibres = map (λ c. firsts (fibres c) (size X c)) (range_with_len 0 k.objects)

abbrev pub second_parts : Category → Presheaf → (ℕ → ℕ → List ℕ) → Components
second_parts k X fibres = map (λ c. seconds (fibres c) (size X c)) (range_with_len 0 k.objects)

abbrev pub start_rows : Category → Presheaf → (ℕ → ℕ → List ℕ) → Components
start_rows k X fibres = map (λ c. starts (fibres c) (size X c)) (range_with_len 0 k.objects)

abbrev pub place_rows : Category → (ℕ → List ℕ) → Components
place_rows k places = map places (range_with_len 0 k.objects)

-- pairs of elements of X and Y at each object, where those that are listed are restricted to those that are listed
pub record IsPaired (k : Category) (X Y : Presheaf) (p q s l : Components) : Type 0 where
  pub first_rows : length p ≡ k.objects
  pub second_rows : length q ≡ k.objects
  pub start_rows : length s ≡ k.objects
  pub place_rows : length l ≡ k.objects
  pub seconds : (c : ℕ) → c < k.objects → length (component q c) ≡ length (component p c)
  pub starts : (c : ℕ) → c < k.objects → length (component s c) ≡ size X c
  pub places : (c : ℕ) → c < k.objects → length (component l c) ≡ size Y c
  pub first_within : (c t : ℕ) → c < k.objects → t < length (component p c) → apply p c t < size X c
  pub second_within : (c t : ℕ) → c < k.objects → t < length (component p c) → apply q c t < size Y c
  pub rise : (c t u : ℕ) → c < k.objects → t < u → u < length (component p c) → (apply p c t < apply p c u) ⊎ ((apply p c t ≡ apply p c u) × (apply q c t < apply q c u))
  pub closed : (c f t : ℕ) → IsInto k c f → t < length (component p c) →
      IsPairPlace (component p (dom k f)) (component q (dom k f)) (apply s (dom k f) (act X f (apply p c t)) + apply l (dom k f) (act Y f (apply q c t))) (act X f (apply p c t)) (act Y f (apply q c t))

-- where the pair at t is restricted to
abbrev pub restricted_pair : List ℕ → List ℕ → List ℕ → List ℕ → List ℕ → List ℕ → ℕ → ℕ
restricted_pair p q along_x along_y s l t = get_or s (get_or along_x (get_or p t 0) 0) 0 + get_or l (get_or along_y (get_or q t 0) 0) 0

-- the restrictions along f
abbrev pub pair_row : Category → Presheaf → Presheaf → Components → Components → Components → Components → ℕ → List ℕ
pair_row k X Y p q s l f =
    map (restricted_pair (component p (cod k f)) (component q (cod k f)) (get_or X.along f []) (get_or Y.along f []) (component s (dom k f)) (component l (dom k f))) (range_with_len 0 (length (component p (cod k f))))

abbrev pub pair_presheaf : Category → Presheaf → Presheaf → Components → Components → Components → Components → Presheaf
pair_presheaf k X Y p q s l = record { sizes = map length p; along = map (pair_row k X Y p q s l) (range_with_len 0 (length k.ends)) }

-- the pairs have numbers of 32 bits
abbrev pub AreFewPairs : Category → Components → Type 0
AreFewPairs k p = (c : ℕ) → c < k.objects → length (component p c) < 2 ^ 32

-- each listed pair is restricted to a number of 32 bits
pub record AreRestricted (p q along_x along_y s l : List ℕ) : Type 0 where
  pub seconds : length q ≡ length p
  pub first : (t : ℕ) → t < length p → get_or p t 0 < length along_x
  pub second : (t : ℕ) → t < length p → get_or q t 0 < length along_y
  pub start : (t : ℕ) → t < length p → get_or along_x (get_or p t 0) 0 < length s
  pub place : (t : ℕ) → t < length p → get_or along_y (get_or q t 0) 0 < length l
  pub few : (t : ℕ) → t < length p → restricted_pair p q along_x along_y s l t < 2 ^ 32

-- every pair of an element of X and one of Y
abbrev pub whole_fibres : Presheaf → ℕ → ℕ → List ℕ
whole_fibres Y c x = range_with_len 0 (size Y c)

abbrev pub whole_places : Presheaf → ℕ → List ℕ
whole_places Y c = range_with_len 0 (size Y c)

-- how many pairs there are at each object
abbrev pub product_sizes : Category → Presheaf → Presheaf → List ℕ
product_sizes k X Y = map (λ c. size X c * size Y c) (range_with_len 0 k.objects)
