-- The orders leave one limit of each kind, and one image.
use Rattle.std.specs.Prelude.{◌≡◌}
use Rattle.topos_model.specs.categories.Category.{Category}
use Rattle.topos_model.specs.types.Types.{Presheaf}
use Rattle.topos_model.specs.Laws.{IsCategory, IsFunctor}
use Rattle.topos_model.specs.presheaves.Maps.{Components}
use Rattle.topos_model.specs.presheaves.Limits.{IsProduct, IsEqualizer, IsPullback, IsImage}

abbrev pub ProductsAreOne : Type 0
ProductsAreOne = (k : Category) (X Y Z W : Presheaf) (p q r s : Components) → IsCategory k → IsProduct k X Y Z p q → IsProduct k X Y W r s → (Z ≡ W) × (p ≡ r) × (q ≡ s)

abbrev pub EqualizersAreOne : Type 0
EqualizersAreOne =
    (k : Category) (X Y : Presheaf) (m n : Components) (Z W : Presheaf) (i j : Components) → IsCategory k → IsEqualizer k X Y m n Z i → IsEqualizer k X Y m n W j → (Z ≡ W) × (i ≡ j)

abbrev pub PullbacksAreOne : Type 0
PullbacksAreOne =
    (k : Category) (X Y B : Presheaf) (m n : Components) (Z W : Presheaf) (p q r s : Components) → IsCategory k → IsPullback k X Y B m n Z p q → IsPullback k X Y B m n W r s → (Z ≡ W) × (p ≡ r) × (q ≡ s)

abbrev pub ImagesAreOne : Type 0
ImagesAreOne =
    (k : Category) (X Y : Presheaf) (m : Components) (Z W : Presheaf) (e d i j : Components) → IsCategory k → IsFunctor k X → IsImage k X Y m Z e i → IsImage k X Y m W d j → (Z ≡ W) × (e ≡ d) × (i ≡ j)
