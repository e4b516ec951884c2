-- Maps between types by their tables: for each object, and each element of the domain there in order, the number of its image.
use Rattle.std.specs.Prelude.{◌≡◌, ℕ, ◌<◌, true, List, [], map, length, get_or}
use Rattle.std.specs.List.{range_with_len}
use Rattle.topos_model.specs.declared.ty.Ty.{One}
use Rattle.topos_model.specs.declared.value.Val.{Val, Star}
use Rattle.topos_model.specs.declared.context.MapTy.{MapTy}
use Rattle.topos_model.specs.declared.context.MapTable.{MapTable}
use Rattle.topos_model.specs.topologies.Cover.{Site}
use Rattle.topos_model.specs.types.Types.{Presheaf, elements}
use Rattle.topos_model.specs.presheaves.Maps.{IsNatural}
use Rattle.topos_model.specs.statements.Cells.{objects_of}
use Rattle.term_ranges.specs.Ranges.{is_type_in_range}
use Rattle.type_laws.specs.TypeLaws.{TypeFunctor}

-- the ends of each
abbrev pub ends_of : List MapTable → List MapTy
ends_of tables = map (λ m. m.ends) tables

-- what stands for a map that is not there
abbrev pub no_table : MapTable
no_table = record { ends = record { dom = One; cod = One }; rows = [] }

abbrev pub table_at : List MapTable → ℕ → MapTable
table_at tables n = get_or tables n no_table

module _ (s : Site) (functors : List Presheaf) where
  -- the elements of the domain at an object with their images, and so at all objects
  unfoldable pub pairs_at : MapTable → ℕ → List (Val × Val)
  pairs_at m c =
      map (λ x. (get_or (elements s functors m.ends.dom c) x Star, get_or (elements s functors m.ends.cod c) (get_or (get_or m.rows c []) x 0) Star))
      (range_with_len 0 (length (elements s functors m.ends.dom c)))

  unfoldable pub pairs_of : MapTable → List (List (Val × Val))
  pairs_of m = map (pairs_at m) (objects_of s.category)

  -- the ends name functors that are there, and the map is natural between the functors of their elements by number
  pub record IsMapTable (m : MapTable) : Type 0 where
    pub domain : is_type_in_range (length functors) m.ends.dom ≡ true
    pub codomain : is_type_in_range (length functors) m.ends.cod ≡ true
    pub natural : IsNatural s.category (TypeFunctor s functors m.ends.dom) (TypeFunctor s functors m.ends.cod) m.rows

  abbrev pub AreMapTables : List MapTable → Type 0
  AreMapTables tables = (n : ℕ) → n < length tables → IsMapTable (table_at tables n)
