-- The places of subsets and functions, by numbers.
use Rattle.std.specs.Prelude.{ℕ, ◌<◌, cond, eqb, List, [], ◌∷◌, length, map, flat_map}
use Rattle.std.specs.List.{range_with_len}
use Rattle.topos_model.specs.declared.ty.Ty.{Ty}
use Rattle.topos_model.specs.declared.value.Entry.{Entry}
use Rattle.topos_model.specs.declared.value.Assign.{Assign}
use Rattle.topos_model.specs.categories.Category.{Category, into, dom}
use Rattle.topos_model.specs.topologies.Cover.{Site}
use Rattle.topos_model.specs.types.Types.{Presheaf}
use Rattle.type_rows.specs.TypeRows.{value_at}
use Rattle.element_values.specs.declared.elements.Elements.{Elements}
use Rattle.element_values.specs.declared.places.Place.{Place}
use Rattle.element_values.specs.declared.places.Image.{Image}
use Rattle.element_values.specs.Known.{IsElement}

abbrev pub spot : ℕ → ℕ → Place
spot f w = record { arrow = f; element = w }

module _ (k : Category) (size : ℕ → ℕ) where
  -- the arrow f with each element over its domain
  unfoldable pub places_over : ℕ → List Place
  places_over f = map (spot f) (range_with_len 0 (size (dom k f)))

  -- in the order of the arrows, and then of the elements
  unfoldable pub places_at : ℕ → List Place
  places_at c = flat_map places_over (into k c)

-- the places at which a row has 1
unfoldable pub marked : List Place → List ℕ → List Place
marked [] row = []
marked (p ∷ ps) [] = []
marked (p ∷ ps) (n ∷ row) = cond (eqb n 1) (p ∷ marked ps row) (marked ps row)

-- the places with the numbers of a row
unfoldable pub imaged : List Place → List ℕ → List Image
imaged [] row = []
imaged (p ∷ ps) [] = []
imaged (p ∷ ps) (n ∷ row) = record { arrow = p.arrow; element = p.element; value = n } ∷ imaged ps row

module _ (s : Site) (functors : List Presheaf) where
  abbrev pub entry_at : Ty → Place → Entry
  entry_at T p = record { arrow = p.arrow; val = value_at s functors T (dom s.category p.arrow) p.element }

  abbrev pub assign_at : Ty → Ty → Image → Assign
  assign_at S T p = record {
    arrow = p.arrow;
    val = value_at s functors S (dom s.category p.arrow) p.element;
    to = value_at s functors T (dom s.category p.arrow) p.value;
  }

module _ (e : Elements) where
  -- an arrow, and an element over its domain
  pub record IsPlace (T : Ty) (p : Place) : Type 0 where
    pub arrow : p.arrow < length e.site.now.category.ends
    pub element : (functors : List Presheaf) × IsElement e functors T (dom e.site.now.category p.arrow) p.element

  -- and a value there
  pub record IsImage (S T : Ty) (p : Image) : Type 0 where
    pub arrow : p.arrow < length e.site.now.category.ends
    pub element : (functors : List Presheaf) × IsElement e functors S (dom e.site.now.category p.arrow) p.element
    pub value : (functors : List Presheaf) × IsElement e functors T (dom e.site.now.category p.arrow) p.value
