-- Presheaves of elements by their numbers, with the maps between numbers and elements.
use Rattle.std.specs.Prelude.{◌≡◌, ℕ, ◌<◌, List, [], ◌∷◌, ◌++◌, map, ⊤}
use Rattle.topos_model.specs.declared.ty.Ty.{Ty, Base}
use Rattle.topos_model.specs.declared.term.Term.{Term}
use Rattle.topos_model.specs.declared.value.Val.{Val}
use Rattle.topos_model.specs.declared.answer.Answer.{Answer}
use Rattle.topos_model.specs.declared.answer.Answer.TheVariants.{Built}
use Rattle.topos_model.specs.declared.answer.MapShape.{MapShape}
use Rattle.topos_model.specs.declared.context.MapTable.{MapTable}
use Rattle.topos_model.specs.categories.Category.{Category}
use Rattle.topos_model.specs.types.Types.{Presheaf, restr}
use Rattle.topos_model.specs.Laws.{IsFunctor}
use Rattle.topos_model.specs.formulas.Forcing.{World, values}
use Rattle.topos_model.specs.statements.Cells.{objects_of}
use Rattle.topos_model.specs.statements.Declarations.{DeclaredMap}
use Rattle.topos_model.specs.statements.Answers.{numbered, satisfying, numbers_with, with_numbers, shape_of, map_shape, map_under}
use Rattle.formula_answers.specs.MapTables.{AreMapTables}
use Rattle.sealed_world.specs.SealedWorlds.{world_cells}
use Rattle.sealed_world.specs.SealedWorlds as world
use Rattle.topos_session.specs.declared.declarations.Declarations.{Declarations}
use Rattle.topos_session.specs.declared.elements.Numbered.{Numbered}
use Rattle.topos_session.specs.declared.stop.Stop.{Stop}
use Rattle.topos_session.specs.declared.stop.Stop.TheVariants as stop
use Rattle.topos_session.specs.Declarations.{declared_map, with_functor}

module _ (w : World) where
  -- the elements of a type by their numbers, and the maps between these and the presheaf number z, both ways (VI.5)
  abbrev pub type_elements : Ty → Presheaf
  type_elements T = numbered w.site.category (values w T) (restr w.site w.functors T)

  abbrev pub type_maps : ℕ → Ty → List DeclaredMap
  type_maps z T =
      map_under 0 (Base z) T (map (λ c. numbers_with (values w T c)) (objects_of w.site.category))
      ∷ map_under 0 T (Base z) (map (λ c. with_numbers (values w T c)) (objects_of w.site.category)) ∷ []

  -- those that satisfy a formula, with the inclusion
  abbrev pub part_elements : Ty → Term → Presheaf
  part_elements T φ = numbered w.site.category (satisfying w T φ) (restr w.site w.functors T)

  abbrev pub part_maps : ℕ → Ty → Term → List DeclaredMap
  part_maps z T φ = map_under 0 (Base z) T (map (λ c. numbers_with (satisfying w T φ c)) (objects_of w.site.category)) ∷ []

-- numbers with their elements, and elements with their numbers, as they are shown
abbrev pub numbers_shape : ℕ → Ty → List (List Val) → MapShape
numbers_shape z T values = record { ends = record { dom = Base z; cod = T }; stages = map numbers_with values }

abbrev pub elements_shape : ℕ → Ty → List (List Val) → MapShape
elements_shape z T values = record { ends = record { dom = T; cod = Base z }; stages = map with_numbers values }

-- a presheaf is shown, and declared with its maps
pub record MakesElements (k : Category) (so : Declarations) (Z : Presheaf) (made_maps : List DeclaredMap) (answer : Answer) (after : Declarations) : Type 0 where
  pub tables : List MapTable
  pub maps : map (declared_map (world.with_presheaf so.world Z)) tables ≡ made_maps
  pub shown : answer ≡ Built (shape_of k Z) (map map_shape made_maps)
  pub declared : after ≡ with_functor so Z tables

-- a presheaf with its maps by their tables, which are lawful behind it, and as they are shown
pub record AreElements (so : Declarations) (Z : Presheaf) (made_maps : List DeclaredMap) (made : Numbered) : Type 0 where
  pub functor : made.functor ≡ Z
  pub lawful : IsFunctor so.world.site.category made.functor
  pub tables : AreMapTables so.world.site (so.world.functors ++ made.functor ∷ []) made.tables
  pub maps : map (declared_map (world.with_presheaf so.world made.functor)) made.tables ≡ made_maps
  pub shapes : made.shapes ≡ map map_shape made_maps

-- with it there are more cells than the budget
abbrev pub IsUnstored : Declarations → Presheaf → Stop → Type 0
IsUnstored so Z (stop.Refused fault) = ⊥
IsUnstored so Z stop.Budget = so.world.budget < world_cells (world.with_presheaf so.world Z)
IsUnstored so Z stop.NoMemory = ⊤
