-- The lines of a functor that was made, and of maps.
use Rattle.std.specs.Prelude.{ℕ, List, [], ◌∷◌, ◌++◌, length, get_or, codes, flat_map}
use Rattle.std.specs.List.{zip, range_with_len}
use Rattle.topos_model.specs.declared.context.MapTy.{MapTy}
use Rattle.topos_model.specs.declared.value.Val.{Val}
use Rattle.topos_model.specs.declared.answer.Shape.{Shape}
use Rattle.topos_model.specs.declared.answer.MapShape.{MapShape}
use Rattle.topos_model.specs.declared.doc.Doc.{Doc}
use Rattle.topos_report.specs.Lists.{comma_separated}
use Rattle.topos_report.specs.Names.{Naming, object_in, place_text, object_name}
use Rattle.topos_report.specs.Values.{value_text}

-- behind a space the entries with commas between them, and nothing where there are none
abbrev pub listed : {X : Type 0} → (X → List ℕ) → List X → List ℕ
listed spelling [] = []
listed spelling (x ∷ rest) = codes " " ++ comma_separated spelling (x ∷ rest)

-- a label and its entries
abbrev pub entries_line : {X : Type 0} → List ℕ → (X → List ℕ) → List X → List ℕ
entries_line label spelling entries = label ++ codes ":" ++ listed spelling entries ++ codes "\n"

-- x -> y, by numbers
unfoldable pub arrow_text : ℕ × ℕ → List ℕ
arrow_text p = place_text p.0 ++ codes " -> " ++ place_text p.1

-- the numbers 0, 1, .. with the members of a list
abbrev pub with_places : List ℕ → List (ℕ × ℕ)
with_places row = zip (range_with_len 0 (length row)) row

module _ (names : Naming) where
  -- at each object the numbers of the elements
  unfoldable pub numbers_line : List ℕ → ℕ → List ℕ
  numbers_line sizes c =
      object_in names c ++ codes ":" ++ flat_map (λ x. codes " " ++ place_text x) (range_with_len 0 (get_or sizes c 0)) ++ codes "\n"

  -- along each declared arrow where they go
  unfoldable pub along_line : List (List ℕ) → ℕ → List ℕ
  along_line along i = entries_line (codes "along " ++ get_or names.arrows i []) arrow_text (with_places (get_or along i []))

  -- both for all objects and all declared arrows
  unfoldable pub shape_lines : Shape → List ℕ
  shape_lines shape =
      flat_map (numbers_line shape.sizes) (range_with_len 0 names.cat.objects)
      ++ flat_map (along_line shape.along) (range_with_len 0 (length names.cat.ends))

module _ (doc : Doc) where
  -- an element of the domain and its image, at c
  unfoldable pub pair_entry : MapTy → ℕ → Val × Val → List ℕ
  pair_entry ends c p = value_text doc ends.dom c p.0 ++ codes " -> " ++ value_text doc ends.cod c p.1

  -- the line of an object
  unfoldable pub map_line : MapShape → ℕ → List ℕ
  map_line m c = entries_line (object_name doc c) (pair_entry m.ends c) (get_or m.stages c [])

  -- the map's name, and a line for each object
  unfoldable pub map_lines : List ℕ × MapShape → List ℕ
  map_lines m = codes "map " ++ m.0 ++ codes "\n" ++ flat_map (map_line m.1) (range_with_len 0 doc.cat.objects)
