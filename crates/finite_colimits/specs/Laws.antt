-- The orders leave one colimit of each kind.
use Rattle.std.specs.Prelude.{◌≡◌}
use Rattle.topos_model.specs.categories.Category.{Category}
use Rattle.topos_model.specs.types.Types.{Presheaf}
use Rattle.topos_model.specs.Laws.{IsCategory, IsFunctor}
use Rattle.topos_model.specs.presheaves.Maps.{Components}
use Rattle.topos_model.specs.presheaves.Colimits.{IsInitial, IsCoproduct, IsCoequalizer, IsPushout}

abbrev pub InitialPresheavesAreOne : Type 0
InitialPresheavesAreOne = (k : Category) (Z W : Presheaf) → IsCategory k → IsInitial k Z → IsInitial k W → Z ≡ W

abbrev pub CoproductsAreOne : Type 0
CoproductsAreOne =
    (k : Category) (X Y Z W : Presheaf) (i j l r : Components) → IsCategory k → IsFunctor k X → IsFunctor k Y → IsCoproduct k X Y Z i j → IsCoproduct k X Y W l r → (Z ≡ W) × (i ≡ l) × (j ≡ r)

abbrev pub CoequalizersAreOne : Type 0
CoequalizersAreOne =
    (k : Category) (X Y : Presheaf) (m n : Components) (Z W : Presheaf) (q r : Components) → IsCategory k → IsFunctor k Y → IsCoequalizer k X Y m n Z q → IsCoequalizer k X Y m n W r → (Z ≡ W) × (q ≡ r)

abbrev pub PushoutsAreOne : Type 0
PushoutsAreOne =
    (k : Category) (A X Y : Presheaf) (m n : Components) (Z W : Presheaf) (i j l r : Components) → IsCategory k → IsPushout k A X Y m n Z i j → IsPushout k A X Y m n W l r → (Z ≡ W) × (i ≡ l) × (j ≡ r)
