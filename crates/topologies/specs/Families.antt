-- Families of arrows into objects.
use Rattle.std.specs.Prelude.{Bool, ◌&&◌, List, length, eqb, ltb}
use Rattle.std.specs.List.{list_all}
use Rattle.topos_model.specs.declared.raw.Family.{Family}
use Rattle.topos_model.specs.categories.Category.{Category, cod}

-- whether the arrows of a family are arrows into its object
abbrev pub is_family : Category → Family → Bool
is_family k family = list_all (λ f. ltb f (length k.ends) && eqb (cod k f) family.at) family.arrows

abbrev pub are_families : Category → List Family → Bool
are_families k families = list_all (is_family k) families
