-- Presheaves whose elements are numbered by pairs of elements of two others, or by elements of one.
use Rattle.std.specs.Prelude.{◌≡◌, ℕ, ◌<◌, [], length, get_or}
use Rattle.topos_model.specs.categories.Category.{Category, dom}
use Rattle.topos_model.specs.types.Types.{Presheaf}
use Rattle.topos_model.specs.Laws.{IsInto, act, size}
use Rattle.topos_model.specs.presheaves.Maps.{Components, component, apply}
use Rattle.topos_model.specs.presheaves.Limits.{PairsRise}

-- the element t of Z at c stands for the pair (p(t), q(t)), and pairs are restricted in both parts
pub record IsCarried (k : Category) (X Y Z : Presheaf) (p q : Components) : Type 0 where
  pub objects : length Z.sizes ≡ k.objects
  pub arrows : length Z.along ≡ length k.ends
  pub total : (c f : ℕ) → IsInto k c f → length (get_or Z.along f []) ≡ size Z c
  pub within : (c f t : ℕ) → IsInto k c f → t < size Z c → act Z f t < size Z (dom k f)
  pub first_objects : length p ≡ k.objects
  pub second_objects : length q ≡ k.objects
  pub first_total : (c : ℕ) → c < k.objects → length (component p c) ≡ size Z c
  pub second_total : (c : ℕ) → c < k.objects → length (component q c) ≡ size Z c
  pub first_within : (c t : ℕ) → c < k.objects → t < size Z c → apply p c t < size X c
  pub second_within : (c t : ℕ) → c < k.objects → t < size Z c → apply q c t < size Y c
  pub first : (c f t : ℕ) → IsInto k c f → t < size Z c → apply p (dom k f) (act Z f t) ≡ act X f (apply p c t)
  pub second : (c f t : ℕ) → IsInto k c f → t < size Z c → apply q (dom k f) (act Z f t) ≡ act Y f (apply q c t)
  pub order : PairsRise k Z p q
