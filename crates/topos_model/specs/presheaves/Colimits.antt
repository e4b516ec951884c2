-- Colimits of presheaves by their universal properties (Categorical Preliminaries, I).
-- Each is said over every finite presheaf F; the orders of the elements leave one presheaf.
use Rattle.std.specs.Prelude.{◌≡◌, ℕ, ◌+◌, ◌<◌, List, ◌++◌, length, get_or}
use Rattle.topos_model.specs.categories.Category.{Category}
use Rattle.topos_model.specs.types.Types.{Presheaf}
use Rattle.topos_model.specs.Laws.{size, IsFunctor}
use Rattle.topos_model.specs.presheaves.Maps.{Components, component, apply, IsNatural, after, ExactlyOne}

-- y is the least place of the number a in the list
pub record IsLeastPlace (s : List ℕ) (a y : ℕ) : Type 0 where
  pub within : y < length s
  pub is : get_or s y 0 ≡ a
  pub least : (z : ℕ) → z < y → get_or s z 0 ≡ a → ⊥

-- each number below n has a place in the list, and the least places of 0, 1, .. rise strictly
pub record LeastPlacesRise (n : ℕ) (s : List ℕ) : Type 0 where
  pub found : (a : ℕ) → a < n → (y : ℕ) × IsLeastPlace s a y
  pub rise : (a b y z : ℕ) → a < b → b < n → IsLeastPlace s a y → IsLeastPlace s b z → y < z

pub record IsInitial (k : Category) (Z : Presheaf) : Type 0 where
  pub functor : IsFunctor k Z
  pub factors : (F : Presheaf) → IsFunctor k F → ExactlyOne (λ (u : Components). IsNatural k Z F u)

pub record IsCoproduct (k : Category) (X Y Z : Presheaf) (i j : Components) : Type 0 where
  pub functor : IsFunctor k Z
  pub first : IsNatural k X Z i
  pub second : IsNatural k Y Z j
  pub factors : (F : Presheaf) (m n : Components) → IsFunctor k F → IsNatural k X F m → IsNatural k Y F n →
      ExactlyOne (λ (u : Components). IsNatural k Z F u × (after u i ≡ m) × (after u j ≡ n))
  -- the elements of X, then those of Y
  pub first_order : (c x : ℕ) → c < k.objects → x < size X c → apply i c x ≡ x
  pub second_order : (c y : ℕ) → c < k.objects → y < size Y c → apply j c y ≡ size X c + y

-- of m and n from X to Y
pub record IsCoequalizer (k : Category) (X Y : Presheaf) (m n : Components) (Z : Presheaf) (q : Components) : Type 0 where
  pub functor : IsFunctor k Z
  pub quotient : IsNatural k Y Z q
  pub equal : after q m ≡ after q n
  pub factors : (F : Presheaf) (l : Components) → IsFunctor k F → IsNatural k Y F l → after l m ≡ after l n →
      ExactlyOne (λ (u : Components). IsNatural k Z F u × (after u q ≡ l))
  -- the classes in the order of their least members
  pub order : (c : ℕ) → c < k.objects → LeastPlacesRise (size Z c) (component q c)

-- of m from A to X and n from A to Y
pub record IsPushout (k : Category) (A X Y : Presheaf) (m n : Components) (Z : Presheaf) (i j : Components) : Type 0 where
  pub functor : IsFunctor k Z
  pub first : IsNatural k X Z i
  pub second : IsNatural k Y Z j
  pub equal : after i m ≡ after j n
  pub factors : (F : Presheaf) (l r : Components) → IsFunctor k F → IsNatural k X F l → IsNatural k Y F r → after l m ≡ after r n →
      ExactlyOne (λ (u : Components). IsNatural k Z F u × (after u i ≡ l) × (after u j ≡ r))
  -- the classes in the order of their least members in the coproduct: the elements of X, then those of Y
  pub order : (c : ℕ) → c < k.objects → LeastPlacesRise (size Z c) (component i c ++ component j c)
