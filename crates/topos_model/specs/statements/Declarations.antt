-- What the statements of a document have declared so far, and the world of a statement.
use Rattle.std.specs.Prelude.{ℕ, ◌+◌, false, List, [], ◌∷◌, ◌++◌, map, length, get_or, None}
use Rattle.topos_model.specs.declared.ty.Ty.{Ty, One}
use Rattle.topos_model.specs.declared.context.MapTy.{MapTy}
use Rattle.topos_model.specs.declared.value.Val.{Val}
use Rattle.topos_model.specs.declared.stmt.Stmt.{Stmt}
use Rattle.topos_model.specs.declared.doc.CatDecl.{CatDecl}
use Rattle.topos_model.specs.declared.doc.Doc.{Doc}
use Rattle.topos_model.specs.declared.raw.RawCat.{RawCat}
use Rattle.topos_model.specs.categories.Category.{Category}
use Rattle.topos_model.specs.topologies.Cover.{Site}
use Rattle.topos_model.specs.types.Types.{Presheaf}
use Rattle.topos_model.specs.types.Values.{number_of}
use Rattle.topos_model.specs.presheaves.Maps.{Components}
use Rattle.topos_model.specs.categories.Filling.{filled_category}
use Rattle.topos_model.specs.categories.CategoryFunctors.{CatFunctor}
use Rattle.topos_model.specs.statements.StatementFaults.{MadeMap}
use Rattle.topos_model.specs.statements.Needs.{named, under, needs}
use Rattle.topos_model.specs.statements.Cells.{Counted, presheaf_cells, cells}
use Rattle.topos_model.specs.formulas.Forcing.{World}

-- a map, and at each object the pairs of an element of its domain and the image, in the order of the elements
pub record DeclaredMap : Type 0 where
  pub made : MadeMap
  pub pairs : List (List (Val × Val))

-- a functor to the document's category, from the second category of this number
pub record DeclaredFunctor : Type 0 where
  pub cat : ℕ
  pub functor : CatFunctor

-- what is declared so far
pub record Declared : Type 0 where
  pub functors : List Presheaf
  pub maps : List DeclaredMap
  pub cat_functors : List DeclaredFunctor
  -- presheaves on second categories
  pub on_functors : List Presheaf
  -- the types that are counted, each list with the number of the topology in force, and the cells that are counted besides
  pub types : List (ℕ × List Ty)
  pub others : ℕ

-- nothing is declared yet
abbrev pub nothing : Declared
nothing = record { functors = []; maps = []; cat_functors = []; on_functors = []; types = []; others = 0 }

-- the document's category
unfoldable pub category_of : Doc → Category
category_of doc = filled_category doc.cat

-- its second category of this number, as it is listed and filled
abbrev pub no_category : CatDecl
no_category = record { name = []; objects = []; arrows = []; cat = record { objects = 0; ends = []; listed = [] } }

unfoldable pub category_listing : Doc → ℕ → RawCat
category_listing doc n = (get_or doc.cats n no_category).cat

unfoldable pub second_category : Doc → ℕ → Category
second_category doc n = filled_category (category_listing doc n)

-- the category under the topology number j
unfoldable pub site_of : Doc → ℕ → Site
site_of doc j =
    let top = get_or doc.tops j (record { name = None; dense = false; covers = [] }) in
    record { category = category_of doc; dense = top.dense; families = top.covers }

-- what stands for a presheaf that is not declared
abbrev pub no_presheaf : Presheaf
no_presheaf = record { sizes = []; along = [] }

module _ (d : Declared) where
  -- the functor, the presheaf on a second category, the functor of categories and the map of this number
  abbrev pub functor_at : ℕ → Presheaf
  functor_at n = get_or d.functors n no_presheaf

  abbrev pub on_functor_at : ℕ → Presheaf
  on_functor_at n = get_or d.on_functors n no_presheaf

  abbrev pub cat_functor_at : ℕ → DeclaredFunctor
  cat_functor_at n = get_or d.cat_functors n (record { cat = 0; functor = record { at = []; along = [] } })

  abbrev pub map_at : ℕ → DeclaredMap
  map_at m = get_or d.maps m (record { made = record { ends = record { dom = One; cod = One }; under = 0 }; pairs = [] })

  abbrev pub ends_at : ℕ → MapTy
  ends_at m = (map_at m).made.ends

  -- of a map between functors: the functors, and where the elements go
  abbrev pub domain_at : ℕ → ℕ
  domain_at m = named (ends_at m).dom

  abbrev pub codomain_at : ℕ → ℕ
  codomain_at m = named (ends_at m).cod

  unfoldable pub components_at : ℕ → Components
  components_at m = map (map (λ p. number_of p.1)) (map_at m).pairs

  -- the ends of all maps
  unfoldable pub map_ends : List MapTy
  map_ends = map (λ m. m.made.ends) d.maps

-- the world of a statement under the topology number j
unfoldable pub world_under : Doc → Declared → ℕ → World
world_under doc d j = record { site = site_of doc j; functors = d.functors; maps = map (λ m. m.pairs) d.maps }

-- the same with a functor, with maps, and with a presheaf on a second category
abbrev pub with_functor : Declared → Presheaf → Declared
with_functor d X = record d { functors = d.functors ++ X ∷ [] }

abbrev pub with_maps : Declared → List DeclaredMap → Declared
with_maps d maps = record d { maps = d.maps ++ maps }

abbrev pub with_others : Declared → ℕ → Declared
with_others d cells = record d { others = d.others + cells }

abbrev pub with_on_functor : Declared → Category → Presheaf → Declared
with_on_functor d k X = record (with_others d (presheaf_cells k X)) { on_functors = d.on_functors ++ X ∷ [] }

-- the same with the types that a statement counts
unfoldable pub with_types : Declared → Stmt → Declared
with_types d stmt = record d { types = d.types ++ (under stmt, needs (map_ends d) stmt) ∷ [] }

-- all cells that are counted so far
unfoldable pub cells_so_far : Doc → Declared → ℕ
cells_so_far doc d =
    cells (category_of doc) (site_of doc) (length doc.tops) (record { functors = d.functors; types = d.types; others = d.others })
