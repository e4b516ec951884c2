-- Presheaves whose rows have the right lengths and hold elements.
use Rattle.std.specs.Prelude.{◌≡◌, ℕ, ◌<◌, [], length, get_or}
use Rattle.topos_model.specs.categories.Category.{Category, dom}
use Rattle.topos_model.specs.types.Types.{Presheaf}
use Rattle.topos_model.specs.Laws.{act, size, IsInto}

-- one size for each object, and for each arrow a row of elements at its domain, one for each element at its codomain
pub record AreRows (k : Category) (X : Presheaf) : Type 0 where
  pub objects : length X.sizes ≡ k.objects
  pub arrows : length X.along ≡ length k.ends
  pub total : (c f : ℕ) → IsInto k c f → length (get_or X.along f []) ≡ size X c
  pub within : (c f x : ℕ) → IsInto k c f → x < size X c → act X f x < size X (dom k f)
