-- Limits of presheaves by their universal properties, and images (Categorical Preliminaries, I, IV).
-- Each is said over every finite presheaf F; the orders of the elements leave one presheaf.
use Rattle.std.specs.Prelude.{◌≡◌, ℕ, ◌<◌, ◌⊎◌}
use Rattle.topos_model.specs.categories.Category.{Category}
use Rattle.topos_model.specs.types.Types.{Presheaf}
use Rattle.topos_model.specs.Laws.{size, IsFunctor}
use Rattle.topos_model.specs.presheaves.Maps.{Components, apply, IsNatural, after, IsInjective, ExactlyOne}

-- i(0), i(1), .. rise strictly at each object
abbrev pub ElementsRise : Category → Presheaf → Components → Type 0
ElementsRise k Z i = (c a b : ℕ) → c < k.objects → a < b → b < size Z c → apply i c a < apply i c b

-- the pairs (p(0), q(0)), (p(1), q(1)), .. rise strictly at each object, lexicographically
abbrev pub PairsRise : Category → Presheaf → Components → Components → Type 0
PairsRise k Z p q =
    (c a b : ℕ) → c < k.objects → a < b → b < size Z c → (apply p c a < apply p c b) ⊎ ((apply p c a ≡ apply p c b) × (apply q c a < apply q c b))

pub record IsProduct (k : Category) (X Y Z : Presheaf) (p q : Components) : Type 0 where
  pub functor : IsFunctor k Z
  pub first : IsNatural k Z X p
  pub second : IsNatural k Z Y q
  pub factors : (F : Presheaf) (m n : Components) → IsFunctor k F → IsNatural k F X m → IsNatural k F Y n →
      ExactlyOne (λ (u : Components). IsNatural k F Z u × (after p u ≡ m) × (after q u ≡ n))
  pub order : PairsRise k Z p q

-- of m and n from X to Y
pub record IsEqualizer (k : Category) (X Y : Presheaf) (m n : Components) (Z : Presheaf) (i : Components) : Type 0 where
  pub functor : IsFunctor k Z
  pub inclusion : IsNatural k Z X i
  pub equal : after m i ≡ after n i
  pub factors : (F : Presheaf) (l : Components) → IsFunctor k F → IsNatural k F X l → after m l ≡ after n l →
      ExactlyOne (λ (u : Components). IsNatural k F Z u × (after i u ≡ l))
  pub order : ElementsRise k Z i

-- of m from X to B and n from Y to B
pub record IsPullback (k : Category) (X Y B : Presheaf) (m n : Components) (Z : Presheaf) (p q : Components) : Type 0 where
  pub functor : IsFunctor k Z
  pub first : IsNatural k Z X p
  pub second : IsNatural k Z Y q
  pub equal : after m p ≡ after n q
  pub factors : (F : Presheaf) (l r : Components) → IsFunctor k F → IsNatural k F X l → IsNatural k F Y r → after m l ≡ after n r →
      ExactlyOne (λ (u : Components). IsNatural k F Z u × (after p u ≡ l) × (after q u ≡ r))
  pub order : PairsRise k Z p q

-- of m from X to Y: Z is the least subobject of Y through which m factors
pub record IsImage (k : Category) (X Y : Presheaf) (m : Components) (Z : Presheaf) (e j : Components) : Type 0 where
  pub functor : IsFunctor k Z
  pub onto : IsNatural k X Z e
  pub inclusion : IsNatural k Z Y j
  pub equal : after j e ≡ m
  pub injective : IsInjective k Z j
  pub factors : (F : Presheaf) (d i : Components) → IsFunctor k F → IsNatural k X F d → IsNatural k F Y i → IsInjective k F i → after i d ≡ m →
      ExactlyOne (λ (u : Components). IsNatural k Z F u × (after i u ≡ j))
  pub order : ElementsRise k Z j
