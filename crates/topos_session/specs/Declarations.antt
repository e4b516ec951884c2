-- What the statements so far have declared, as the run sees it.
use Rattle.std.specs.Prelude.{◌≡◌, ℕ, Bool, ◌&&◌, cond, List, [], ◌∷◌, ◌++◌, map, Option, Some, None}
use Rattle.topos_model.specs.declared.ty.Ty.{Ty}
use Rattle.topos_model.specs.declared.context.MapTable.{MapTable}
use Rattle.topos_model.specs.categories.Category.{Category}
use Rattle.topos_model.specs.types.Types.{Presheaf}
use Rattle.topos_model.specs.topologies.Cover.{Site}
use Rattle.topos_model.specs.statements.Needs.{named}
use Rattle.topos_model.specs.statements.Cells.{is_named}
use Rattle.topos_model.specs.statements.Declarations.{Declared, DeclaredMap}
use Rattle.topos_model.specs.statements.Answers.{element_pairs, map_under}
use Rattle.formula_answers.specs.MapTables.{pairs_of, AreMapTables}
use Rattle.sealed_world.specs.SealedWorlds.{CountedWorld, bare_world}
use Rattle.sealed_world.specs.SealedWorlds as world
use Rattle.topos_session.specs.declared.declarations.FunctorMap.{FunctorMap}
use Rattle.topos_session.specs.declared.declarations.Declarations.{Declarations}
use Rattle.topos_session.specs.Functors.{AreFunctors}

-- a map between presheaves, as the run declares it
abbrev pub declared_between : MapTable → DeclaredMap
declared_between m = map_under 0 m.ends.dom m.ends.cod (map element_pairs m.rows)

-- the map of a table, where both its ends are presheaves
abbrev pub is_between : MapTable → Bool
is_between m = is_named m.ends.dom && is_named m.ends.cod

abbrev pub functor_map_of : MapTable → Option FunctorMap
functor_map_of m = cond (is_between m) (Some (record { dom = named m.ends.dom; cod = named m.ends.cod; map = m.rows })) None

-- a map as the run declares it
abbrev pub declared_map : CountedWorld → MapTable → DeclaredMap
declared_map w m = map_under 0 m.ends.dom m.ends.cod (pairs_of w.site w.functors m)

-- what is declared, with the types that are counted
abbrev pub with_counted : Declarations → List (ℕ × List Ty) → Declared
with_counted so types = record {
  functors = so.world.functors;
  maps = map (declared_map so.world) so.maps;
  cat_functors = [];
  on_functors = [];
  types = types;
  others = so.world.charges;
}

-- nothing is declared yet over a site
abbrev pub none_declared : Site → ℕ → Declarations
none_declared s budget = record { world = bare_world s budget; maps = [] }

-- functors, and natural maps between their types
pub record AreLawful (k : Category) (so : Declarations) : Type 0 where
  pub category : so.world.site.category ≡ k
  pub functors : AreFunctors k so.world.functors
  pub maps : AreMapTables so.world.site so.world.functors so.maps

-- the same with a functor, and maps between it and those before it
abbrev pub with_functor : Declarations → Presheaf → List MapTable → Declarations
with_functor so Z maps = record so { world = world.with_presheaf so.world Z; maps = so.maps ++ maps }

abbrev pub with_presheaf : Declarations → Presheaf → Declarations
with_presheaf so X = record so { world = world.with_presheaf so.world X }

abbrev pub with_map : Declarations → MapTable → Declarations
with_map so m = record so { maps = so.maps ++ m ∷ [] }

abbrev pub with_cells : Declarations → ℕ → Declarations
with_cells so cells = record so { world = world.with_charges so.world cells }

-- nothing changed but the types that are sealed
pub record IsKept (so after : Declarations) : Type 0 where
  pub types : List Ty
  pub is : after ≡ record so { world = record so.world { types = types } }
