-- Natural maps as data, their composites and injections (Categorical Preliminaries, I).
use Rattle.std.specs.Prelude.{◌≡◌, ℕ, ◌<◌, List, [], ◌∷◌, map, length, get_or}
use Rattle.topos_model.specs.categories.Category.{Category, dom}
use Rattle.topos_model.specs.types.Types.{Presheaf}
use Rattle.topos_model.specs.Laws.{IsInto, IsCategory, act, size, IsFunctor}

-- the components of a natural map: at each object the number to which each element of the domain goes
abbrev pub Components : Type 0
Components = List (List ℕ)

-- the component at c
abbrev pub component : Components → ℕ → List ℕ
component m c = get_or m c []

-- where m takes x at c
abbrev pub apply : Components → ℕ → ℕ → ℕ
apply m c x = get_or (component m c) x 0

pub record IsNatural (k : Category) (P Q : Presheaf) (m : Components) : Type 0 where
  -- one component for each object, with exactly one number for each element of the domain: so maps that agree on all elements are equal lists
  pub objects : length m ≡ k.objects
  pub total : (c : ℕ) → c < k.objects → length (component m c) ≡ size P c
  pub within : (c x : ℕ) → c < k.objects → x < size P c → apply m c x < size Q c
  pub commutes : (c f x : ℕ) → IsInto k c f → x < size P c → apply m (dom k f) (act P f x) ≡ act Q f (apply m c x)

-- a function after another, both as lists of numbers
abbrev pub after_component : List ℕ → List ℕ → List ℕ
after_component s r = map (λ x. get_or s x 0) r

-- n.m, first m and then n
unfoldable pub after : Components → Components → Components
after (s ∷ n) (r ∷ m) = after_component s r ∷ after n m
after _ _ = []

-- no two elements of the domain go to one
abbrev pub IsInjective : Category → Presheaf → Components → Type 0
IsInjective k P m = (c x y : ℕ) → c < k.objects → x < size P c → y < size P c → apply m c x ≡ apply m c y → x ≡ y

-- composites of natural maps are natural
abbrev pub CompositesAreNatural : Type 0
CompositesAreNatural =
    (k : Category) (P Q R : Presheaf) (n m : Components) → IsCategory k → IsFunctor k P → IsNatural k Q R n → IsNatural k P Q m → IsNatural k P R (after n m)

-- and natural maps with the same values are one list
abbrev pub MapsAreValues : Type 0
MapsAreValues =
    (k : Category) (P Q : Presheaf) (m n : Components) → IsNatural k P Q m → IsNatural k P Q n →
    ((c x : ℕ) → c < k.objects → x < size P c → apply m c x ≡ apply n c x) → m ≡ n

-- there is one that has the property, and each that has it is that one
abbrev pub ExactlyOne : {A : Type 0} → (A → Type 0) → Type 0
ExactlyOne {A} P = (a : A) × P a × ((b : A) → P b → b ≡ a)
