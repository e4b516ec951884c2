-- How objects, arrows and elements of functors are spelled. A number with no name spells nothing.
use Rattle.std.specs.Prelude.{ℕ, ◌-◌, List, [], ◌++◌, Option, Some, None, cond, ltb, get_or, codes, decimal}
use Rattle.topos_model.specs.declared.raw.RawCat.{RawCat}
use Rattle.topos_model.specs.declared.doc.Doc.{Doc}
use Rattle.topos_model.specs.declared.doc.FunctorName.{FunctorName}
use Rattle.topos_model.specs.declared.doc.OnName.{OnName}

-- a category with the names of its objects and of its declared arrows
pub record Naming : Type 0 where
  pub cat : RawCat
  pub objects : List (List ℕ)
  pub arrows : List (List ℕ)

-- an object, and an arrow
abbrev pub object_in : Naming → ℕ → List ℕ
object_in names c = get_or names.objects c []

-- of an identity, `id` and its object
unfoldable pub arrow_in : Naming → ℕ → List ℕ
arrow_in names f = cond (ltb f names.cat.objects) (codes "id " ++ object_in names f) (get_or names.arrows (f - names.cat.objects) [])

-- an element by its number alone
unfoldable pub place_text : ℕ → List ℕ
place_text x = codes "#" ++ decimal x

-- by its declared name, or by its number where the functor has no names
unfoldable pub name_or_number : Option (List (List (List ℕ))) → ℕ → ℕ → List ℕ
name_or_number (Some names) c x = get_or (get_or names c []) x []
name_or_number None c x = codes "#" ++ decimal x

abbrev pub nameless : FunctorName
nameless = record { name = []; elements = Some [] }

module _ (doc : Doc) where
  abbrev pub object_name : ℕ → List ℕ
  object_name c = get_or doc.objects c []

  -- the identities stand first
  unfoldable pub arrow_name : ℕ → List ℕ
  arrow_name f = cond (ltb f doc.cat.objects) (codes "id " ++ object_name f) (get_or doc.arrows (f - doc.cat.objects) [])

  -- the element x of the functor at the object c
  unfoldable pub element_name : ℕ → ℕ → ℕ → List ℕ
  element_name functor c x = name_or_number (get_or doc.functors functor nameless).elements c x

  -- the document's category, and its second category of this number
  abbrev pub naming : Naming
  naming = record { cat = doc.cat; objects = doc.objects; arrows = doc.arrows }

  unfoldable pub second_naming : ℕ → Naming
  second_naming n =
      let listed = get_or doc.cats n (record { name = []; objects = []; arrows = []; cat = record { objects = 0; ends = []; listed = [] } }) in
      record { cat = listed.cat; objects = listed.objects; arrows = listed.arrows }

  -- functors, maps, and what is declared on second categories
  abbrev pub functor_name : ℕ → List ℕ
  functor_name n = (get_or doc.functors n nameless).name

  abbrev pub map_name : ℕ → List ℕ
  map_name m = get_or doc.maps m []

  abbrev pub on_functor : ℕ → OnName
  on_functor n = get_or doc.on_functors n (record { name = []; cat = 0; elements = Some [] })

  abbrev pub on_map_name : ℕ → List ℕ
  on_map_name m = get_or doc.on_maps m []
