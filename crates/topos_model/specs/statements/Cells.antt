-- What the elements of types cost: an element at c costs one cell, one for each arrow into c, and one for each place of a subset or a function.
use Rattle.std.specs.Prelude.{◌≡◌, ℕ, ◌+◌, ◌*◌, Bool, true, false, cond, not, List, [], ◌∷◌, map, length, get_or, eqb, filter, flat_map, sum}
use Rattle.std.specs.List.{list_any, range_with_len}
use Rattle.topos_model.specs.declared.ty.Ty.{Ty, Base, Pow', Fun', more_of-Ty as one, end_of-Ty as none}
use Rattle.topos_model.specs.categories.Category.{Category, into}
use Rattle.topos_model.specs.topologies.Cover.{Site}
use Rattle.topos_model.specs.types.Types.{Presheaf, functor, elements, places}
use Rattle.topos_model.specs.types.SameType.{same_type}

-- the objects of a category, in order
abbrev pub objects_of : Category → List ℕ
objects_of k = range_with_len 0 k.objects

-- the cells of the elements of a presheaf
unfoldable pub presheaf_cells : Category → Presheaf → ℕ
presheaf_cells k X = sum (map (λ c. get_or X.sizes c 0 * (1 + length (into k c))) (objects_of k))

-- the cells of maps that are listed from X
unfoldable pub hom_cells : ℕ → Presheaf → ℕ
hom_cells maps X = maps * (1 + sum X.sizes)

-- whether a type is a functor, which is counted where it is made
unfoldable pub is_named : Ty → Bool
is_named (Base n) = true
is_named _ = false

-- each type once, where it stands last
unfoldable pub without_repeats : List Ty → List Ty
without_repeats [] = []
without_repeats (T ∷ rest) = cond (list_any (same_type T) rest) (without_repeats rest) (T ∷ without_repeats rest)

module _ (s : Site) (functors : List Presheaf) where
  -- how many places an element of the type at c has
  unfoldable pub width : Ty → ℕ → ℕ
  width (Pow' _ (one T none)) c = length (places s (elements s functors T) c)
  width (Fun' _ (one S none) _ (one T none)) c = length (places s (elements s functors S) c)
  width _ c = 0

  -- the cells of all elements of a type
  unfoldable pub cells_of : Ty → ℕ
  cells_of T = sum (map (λ c. length (elements s functors T c) * (1 + length (into s.category c) + width T c)) (objects_of s.category))

  -- the cells of distinct types other than functors
  unfoldable pub types_cells : List Ty → ℕ
  types_cells types = sum (map cells_of (filter (λ T. not (is_named T)) (without_repeats types)))

-- what the statements up to some place count
pub record Counted : Type 0 where
  -- the functors that they make
  pub functors : List Presheaf
  -- their types, each list with the number of the topology in force
  pub types : List (ℕ × List Ty)
  -- the cells of listed maps, of nodes of certificates, and of presheaves on second categories
  pub others : ℕ

-- the types that are counted under the topology number j
unfoldable pub types_under : ℕ → List (ℕ × List Ty) → List Ty
types_under j counted = flat_map (λ entry. entry.1) (filter (λ entry. eqb entry.0 j) counted)

-- the functors are counted once for each topology, and so are the distinct types of the statements under it
unfoldable pub cells : Category → (ℕ → Site) → ℕ → Counted → ℕ
cells k site_of topologies counted =
    topologies * sum (map (presheaf_cells k) counted.functors)
    + sum (map (λ j. types_cells (site_of j) counted.functors (types_under j counted.types)) (range_with_len 0 topologies))
    + counted.others

-- a functor costs the same as a type and by itself, under each topology
abbrev pub FunctorCells : Type 0
FunctorCells = (s : Site) (functors : List Presheaf) (n : ℕ) → cells_of s functors (Base n) ≡ presheaf_cells s.category (functor s functors n)
