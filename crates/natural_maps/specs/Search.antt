-- All natural maps as rows of numbers, one for each element.
use Rattle.std.specs.Prelude.{ℕ, Bool, List, map, flat_map, replicate}
use Rattle.std.specs.List.{range_with_len}
use Rattle.topos_model.specs.categories.Category.{Category}
use Rattle.topos_model.specs.types.Types.{Presheaf}
use Rattle.topos_model.specs.Laws.{size}
use Rattle.topos_model.specs.presheaves.NaturalMaps.{is_natural_map}
use Rattle.natural_maps.specs.Places.{cut}

-- how many numbers there are for each element, objects in order
abbrev pub bounds_of : Category → Presheaf → Presheaf → List ℕ
bounds_of k P Q = flat_map (λ c. replicate (size P c) (size Q c)) (range_with_len 0 k.objects)

-- how many elements there are at each object
abbrev pub sizes_of : Category → Presheaf → List ℕ
sizes_of k P = map (size P) (range_with_len 0 k.objects)

-- whether numbers for all elements, in one line, make a natural map
abbrev pub is_natural : Category → Presheaf → Presheaf → List ℕ → Bool
is_natural k P Q values = is_natural_map k P Q (cut (sizes_of k P) values)
