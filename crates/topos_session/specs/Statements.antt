-- What the statements that are run answer over declared functors and maps, and why they are refused.
use Rattle.std.specs.Prelude.{◌≡◌, ◌↔◌, ℕ, ◌-◌, ◌≤◌, ◌<◌, true, false, not, eqb, List, [], ◌∷◌, map, ◌++◌, reverse, length, flat_map, is_none, Option, Some, None, Ok, ⊤}
use Rattle.finite_lists.specs.First.{or_else, some_if}
use Rattle.topos_model.specs.declared.stmt.Stmt.{Stmt}
use Rattle.topos_model.specs.declared.stmt.Stmt.TheVariants as statement
use Rattle.topos_model.specs.declared.answer.Answer.{Answer}
use Rattle.topos_model.specs.declared.answer.Answer.TheVariants.{Quiet, Built, Maps, Shown, Classified, Verdict}
use Rattle.topos_model.specs.declared.fault.Fault.{Fault}
use Rattle.topos_model.specs.declared.fault.Fault.TheVariants as refused
use Rattle.presheaf_core.specs.declared.fault.FunctorFault.{FunctorFault}
use Rattle.presheaf_core.specs.declared.fault.FunctorFault.TheVariants as presheaf_fault
use Rattle.functor_store.specs.declared.fault.StoreFault.{StoreFault}
use Rattle.functor_store.specs.declared.fault.StoreFault.TheVariants as store_fault
use Rattle.natural_maps.specs.declared.fault.MapFault.{MapFault}
use Rattle.natural_maps.specs.declared.fault.MapFault.TheVariants as map_fault
use Rattle.sealed_world.specs.SealedWorlds.{CountedWorld, world_cells, cells_with, IsGrownBy}
use Rattle.topos_session.specs.declared.stop.Stop.{Stop}
use Rattle.topos_session.specs.declared.stop.Stop.TheVariants as stop
use Rattle.topos_session.specs.declared.declarations.Declarations.{Declarations}
use Rattle.topos_model.specs.categories.Category.{Category}
use Rattle.topos_model.specs.types.Types.{Presheaf}
use Rattle.topos_model.specs.declared.context.Ctx.{Ctx}
use Rattle.topos_model.specs.declared.term.Term.{Term}
use Rattle.topos_model.specs.declared.ty.Ty.{Ty, Omega}
use Rattle.finite_lists.specs.Members.{In}
use Rattle.topos_model.specs.topologies.Sheaves.{sheaf_fault}
use Rattle.topos_model.specs.formulas.Typing.{typed}
use Rattle.topos_model.specs.formulas.Forcing.{shown}
use Rattle.topos_model.specs.statements.StatementFaults.{formula_fault, term_fault, size_fault}
use Rattle.term_typing.specs.declared.fault.TypeFault.{TypeFault}
use Rattle.term_typing.specs.declared.fault.TypeFault.TheVariants as type_fault
use Rattle.topos_model.specs.declared.context.MapTable.{MapTable}
use Rattle.formula_answers.specs.MapTables.{ends_of}
use Rattle.formula_answers.specs.Formulas.{world_of, IsTermOver}
use Rattle.term_objects.specs.TermObjects.{IsTermMap}
use Rattle.topos_model.specs.categories.Filling.{filled_presheaf}
use Rattle.topos_model.specs.presheaves.Maps.{IsNatural}
use Rattle.topos_model.specs.presheaves.NaturalMaps.{maps}
use Rattle.topos_model.specs.presheaves.PresheafFaults.{presheaf_fault as fault_of_presheaf}
use Rattle.topos_model.specs.presheaves.MapFaults.{listed_map, map_fault as fault_of_map}
use Rattle.topos_model.specs.statements.Needs.{needs, parts, term_needs, first_no_sheaf}
use Rattle.topos_model.specs.statements.Cells.{objects_of, hom_cells}
use Rattle.topos_model.specs.statements.Answers.{tuple_of, unforced, classified, sheaf_answer, shape_of, map_shape, functor_map}
use Rattle.topos_session.specs.Ranges.{declares}
use Rattle.topos_session.specs.Functors.{functor_at}
use Rattle.topos_session.specs.Declarations.{declared_between, AreLawful, with_functor, with_presheaf, with_map, with_cells}
use Rattle.topos_session.specs.Constructions.{is_construction, between, property, fit}
use Rattle.topos_session.specs.Elements.{type_elements, type_maps, part_elements, part_maps, MakesElements}

-- the stop by a fault of a listed presheaf
abbrev pub presheaf_stop : FunctorFault → Stop
presheaf_stop (presheaf_fault.RestrictionMissing f) = stop.Refused (refused.RestrictionMissing f)
presheaf_stop (presheaf_fault.NotTotal f x) = stop.Refused (refused.NotTotal f x)
presheaf_stop (presheaf_fault.NotFunctorial g f x) = stop.Refused (refused.NotFunctorial g f x)
presheaf_stop presheaf_fault.NoMemory = stop.NoMemory

-- the stop by a fault of a listed map
abbrev pub map_stop : MapFault → Stop
map_stop (map_fault.NoElement c k) = stop.Refused (refused.NoElement c k)
map_stop (map_fault.MapNotTotal c x) = stop.Refused (refused.MapNotTotal c x)
map_stop (map_fault.NotNatural f x) = stop.Refused (refused.NotNatural f x)
map_stop map_fault.NoMemory = stop.NoMemory

-- the stop by a fault of types
abbrev pub type_stop : TypeFault → Stop
type_stop (type_fault.Expected S T) = stop.Refused (refused.Expected S T)
type_stop (type_fault.NotAFunction T) = stop.Refused (refused.NotAFunction T)
type_stop (type_fault.NotAPower T) = stop.Refused (refused.NotAPower T)
type_stop (type_fault.NotAPair T) = stop.Refused (refused.NotAPair T)
type_stop type_fault.NoMemory = stop.NoMemory

-- the stop by a fault of the store
abbrev pub store_stop : StoreFault → Stop
store_stop store_fault.Over = stop.Budget
store_stop store_fault.NoMemory = stop.NoMemory

-- a functor with the property that the statement names is made, shown and declared with its maps
pub record Builds (k : Category) (so : Declarations) (stmt : Stmt) (answer : Answer) (after : Declarations) : Type 0 where
  pub functor : Presheaf
  pub maps : List MapTable
  pub property : property k so stmt functor maps
  pub shown : answer ≡ Built (shape_of k functor) (map (λ m. map_shape (declared_between m)) maps)
  pub declared : after ≡ with_functor so functor maps

-- a map that a term defines is declared
pub record Defines (so : Declarations) (T : Ty) (t : Term) (after : Declarations) : Type 0 where
  pub codomain : Ty
  pub typing : typed (ends_of so.maps) (T ∷ []) t ≡ Ok codomain
  pub table : MapTable
  pub map : IsTermMap so.world so.maps T t codomain table
  pub declared : after ≡ with_map so table

-- what a statement answers, and what is declared behind it
abbrev pub AnswersOver : Category → Declarations → Stmt → Answer → Declarations → Type 0
AnswersOver k so (statement.Presheaf functor raw) answer after = (answer ≡ Quiet) × (after ≡ with_presheaf so (filled_presheaf k raw))
AnswersOver k so (statement.Map m x y raw) answer after =
    let m = listed_map k (functor_at so.world.functors x) raw in
    (answer ≡ Quiet) × (after ≡ with_map so (between x y m)) × IsNatural k (functor_at so.world.functors x) (functor_at so.world.functors y) m
AnswersOver k so (statement.Sheaf under x) answer after = (answer ≡ sheaf_answer x (sheaf_fault so.world.site (functor_at so.world.functors x))) × (after ≡ so)
AnswersOver k so (statement.Hom x y) answer after =
    let listed = maps k (functor_at so.world.functors x) (functor_at so.world.functors y) in
    (answer ≡ Maps (map (λ m. map_shape (functor_map x y m)) listed)) × (after ≡ with_cells so (hom_cells (length listed) (functor_at so.world.functors x)))
AnswersOver k so (statement.Show under ctx φ) answer after =
    (answer ≡ Shown ctx (map (λ c. map tuple_of (shown (world_of so.world so.maps) (reverse ctx.types) φ c)) (objects_of k))) × (after ≡ so)
AnswersOver k so (statement.Classify under ctx φ) answer after =
    (answer ≡ Classified ctx (map (classified (world_of so.world so.maps) (reverse ctx.types) φ) (objects_of k))) × (after ≡ so)
AnswersOver k so (statement.Valid under ctx φ) answer after =
    (answer ≡ Verdict ctx (map (λ c. map tuple_of (unforced (world_of so.world so.maps) (reverse ctx.types) φ c)) (objects_of k))) × (after ≡ so)
AnswersOver k so (statement.Build under z T u v) answer after =
    let w = world_of so.world so.maps in MakesElements k so (type_elements w T) (type_maps w z T) answer after
AnswersOver k so (statement.Sub under z T φ i) answer after =
    let w = world_of so.world so.maps in MakesElements k so (part_elements w T φ) (part_maps w z T φ) answer after
AnswersOver k so (statement.Let under m T t) answer after = (answer ≡ Quiet) × Defines so T t after
AnswersOver k so stmt answer after = Builds k so stmt answer after

-- the first presheaf that occurs in types and is no sheaf
unfoldable pub no_sheaf_among : CountedWorld → List Ty → Option Fault
no_sheaf_among w types = first_no_sheaf (λ n. is_none (sheaf_fault w.site (functor_at w.functors n))) (length w.functors) types

-- the types that a formula counts
abbrev pub formula_needs : List MapTable → Ctx → Term → List Ty
formula_needs maps ctx φ = term_needs (ends_of maps) (reverse ctx.types) φ

-- a statement that counts types is refused under another topology than the first, then for the first fault of its term, and then for the first presheaf that is no sheaf among these types
unfoldable pub refusal_in_turn : CountedWorld → ℕ → Option Fault → List Ty → Option Fault
refusal_in_turn w under fault needed = or_else (some_if (not (eqb under 0)) refused.NotBuilt) (or_else fault (no_sheaf_among w needed))

-- a formula has a fault of types, or is of another type than truth values
abbrev pub formula_refusal : CountedWorld → List MapTable → ℕ → Ctx → Term → Option Fault
formula_refusal w maps under ctx φ = refusal_in_turn w under (formula_fault (ends_of maps) (reverse ctx.types, φ)) (formula_needs maps ctx φ)

-- the types that a term over one variable counts, and its fault: one of types, or a type that is too large
abbrev pub map_needs : List MapTable → Ty → Term → List Ty
map_needs maps T t = term_needs (ends_of maps) (T ∷ []) t

unfoldable pub term_map_fault : List MapTable → Ty → Term → Option Fault
term_map_fault maps T t = or_else (term_fault (ends_of maps) (T ∷ [], t)) (size_fault (typed (ends_of maps) (T ∷ []) t))

-- why a statement is refused
abbrev pub refusal_over : Category → Declarations → Stmt → Option Fault
refusal_over k so (statement.Presheaf functor raw) = fault_of_presheaf k raw
refusal_over k so (statement.Map m x y raw) = fault_of_map k (functor_at so.world.functors x) (functor_at so.world.functors y) raw
refusal_over k so (statement.Sheaf under x) = some_if (not (eqb under 0)) refused.NotBuilt
refusal_over k so (statement.Hom x y) = None
refusal_over k so (statement.Show under ctx φ) = formula_refusal so.world so.maps under ctx φ
refusal_over k so (statement.Classify under ctx φ) = formula_refusal so.world so.maps under ctx φ
refusal_over k so (statement.Valid under ctx φ) = formula_refusal so.world so.maps under ctx φ
refusal_over k so (statement.Build under z T u v) = refusal_in_turn so.world under None (parts T)
refusal_over k so (statement.Sub under z T φ i) = refusal_in_turn so.world under (formula_fault (ends_of so.maps) (T ∷ [], φ)) (map_needs so.maps T φ)
refusal_over k so (statement.Let under m T t) = refusal_in_turn so.world under (term_map_fault so.maps T t) (map_needs so.maps T t)
refusal_over k so stmt = elim (is_construction stmt) [ true ↦ some_if (not (fit so.maps stmt)) refused.NotParallel | false ↦ Some refused.NotBuilt ]

-- the types that a statement counts are sealed, and nothing else has changed
pub record AreSealedFor (stmt : Stmt) (so mid : Declarations) : Type 0 where
  pub maps : mid.maps ≡ so.maps
  pub types : IsGrownBy (needs (ends_of so.maps) stmt) so.world mid.world

-- a formula, and types that have the parts that it counts
pub record IsTyped (maps : List MapTable) (ctx : Ctx) (φ : Term) (types : List Ty) : Type 0 where
  pub formula : typed (ends_of maps) (reverse ctx.types) φ ≡ Ok Omega
  pub counted : (T : Ty) → In (flat_map parts types) T ↔ In (formula_needs maps ctx φ) T

-- its first fault of types, or another type than that of truth values
abbrev pub IsTypeStop : List MapTable → Ctx → Term → Stop → Type 0
IsTypeStop maps ctx φ (stop.Refused fault) = formula_fault (ends_of maps) (reverse ctx.types, φ) ≡ Some fault
IsTypeStop _ ctx φ stop.Budget = ⊥
IsTypeStop _ ctx φ stop.NoMemory = ⊤

-- one of them is no sheaf
abbrev pub IsSheafStop : CountedWorld → List Ty → Stop → Type 0
IsSheafStop w types (stop.Refused fault) = no_sheaf_among w types ≡ Some fault
IsSheafStop w types stop.Budget = ⊥
IsSheafStop w types stop.NoMemory = ⊤

-- a term over one variable, and types that have the parts that it counts
pub record IsMapTyped (maps : List MapTable) (T : Ty) (t : Term) (types : List Ty) : Type 0 where
  pub codomain : Ty
  pub typing : typed (ends_of maps) (T ∷ []) t ≡ Ok codomain
  pub faultless : term_map_fault maps T t ≡ None
  pub counted : (U : Ty) → In (flat_map parts types) U ↔ In (map_needs maps T t) U

abbrev pub IsMapTypeStop : List MapTable → Ty → Term → Stop → Type 0
IsMapTypeStop maps T t (stop.Refused fault) = term_map_fault maps T t ≡ Some fault
IsMapTypeStop _ T t stop.Budget = ⊥
IsMapTypeStop _ T t stop.NoMemory = ⊤

-- types are sealed of which none names a presheaf that is no sheaf, they are within the budget, and nothing else has changed
pub record AreSealed (types : List Ty) (so mid : Declarations) : Type 0 where
  pub sheaves : no_sheaf_among so.world (flat_map parts types) ≡ None
  pub maps : mid.maps ≡ so.maps
  pub grown : IsGrownBy (flat_map parts types) so.world mid.world
  pub fit : cells_with so.world (flat_map parts types) ≤ so.world.budget
  pub within : world_cells mid.world ≤ so.world.budget

-- one of them is no sheaf, or they have more cells than the budget
abbrev pub IsSealStop : List Ty → Declarations → Stop → Type 0
IsSealStop types so (stop.Refused fault) = no_sheaf_among so.world (flat_map parts types) ≡ Some fault
IsSealStop types so stop.Budget = (no_sheaf_among so.world (flat_map parts types) ≡ None) × (so.world.budget < cells_with so.world (flat_map parts types))
IsSealStop types so stop.NoMemory = ⊤

-- a statement is accepted, all types that it counts are sealed and within the budget, and nothing else has changed
pub record AreNeedsSealed (under : ℕ) (fault : Option Fault) (needed : List Ty) (so mid : Declarations) : Type 0 where
  pub accepted : refusal_in_turn so.world under fault needed ≡ None
  pub maps : mid.maps ≡ so.maps
  pub types : IsGrownBy needed so.world mid.world
  pub types_fit : cells_with so.world needed ≤ so.world.budget
  pub within : world_cells mid.world ≤ so.world.budget

-- it is refused, or its types have more cells than the budget
abbrev pub IsNeedsStop : ℕ → Option Fault → List Ty → Declarations → Stop → Type 0
IsNeedsStop under fault needed so (stop.Refused refusal) = refusal_in_turn so.world under fault needed ≡ Some refusal
IsNeedsStop under fault needed so stop.Budget = (refusal_in_turn so.world under fault needed ≡ None) × (so.world.budget < cells_with so.world needed)
IsNeedsStop under fault needed so stop.NoMemory = ⊤

-- the same with a term over what is sealed
pub record IsTermSealed (under : ℕ) (fault : Option Fault) (needed Γ : List Ty) (t : Term) (U : Ty) (so mid : Declarations) : Type 0 where
  pub needs : AreNeedsSealed under fault needed so mid
  pub term : IsTermOver mid.world mid.maps Γ t U

-- of a type, of a formula, and of a term over one variable
abbrev pub IsTypeSealed : ℕ → Ty → Declarations → Declarations → Type 0
IsTypeSealed under T so mid = AreNeedsSealed under None (parts T) so mid

abbrev pub IsTypeUnsealed : ℕ → Ty → Declarations → Stop → Type 0
IsTypeUnsealed under T so stop = IsNeedsStop under None (parts T) so stop

abbrev pub IsFormulaSealed : ℕ → Ctx → Term → Declarations → Declarations → Type 0
IsFormulaSealed under ctx φ so mid = IsTermSealed under (formula_fault (ends_of so.maps) (reverse ctx.types, φ)) (formula_needs so.maps ctx φ) (reverse ctx.types) φ Omega so mid

abbrev pub IsFormulaStop : ℕ → Ctx → Term → Declarations → Stop → Type 0
IsFormulaStop under ctx φ so stop = IsNeedsStop under (formula_fault (ends_of so.maps) (reverse ctx.types, φ)) (formula_needs so.maps ctx φ) so stop

pub record IsMapSealed (under : ℕ) (T : Ty) (t : Term) (so mid : Declarations) : Type 0 where
  pub codomain : Ty
  pub sealed : IsTermSealed under (term_map_fault so.maps T t) (map_needs so.maps T t) (T ∷ []) t codomain so mid

abbrev pub IsMapStop : ℕ → Ty → Term → Declarations → Stop → Type 0
IsMapStop under T t so stop = IsNeedsStop under (term_map_fault so.maps T t) (map_needs so.maps T t) so stop

-- a statement is answered, with this declared before it and behind it
pub record IsAnsweredOver (k : Category) (so : Declarations) (stmt : Stmt) (answer : Answer) (after : Declarations) : Type 0 where
  pub accepted : refusal_over k so stmt ≡ None
  -- its types are within the budget
  pub mid : Declarations
  pub sealed : AreSealedFor stmt so mid
  pub types_fit : cells_with so.world (needs (ends_of so.maps) stmt) ≤ so.world.budget
  pub answers : AnswersOver k mid stmt answer after
  pub within : world_cells after.world ≤ so.world.budget
  pub lawful : AreLawful k after
  pub declared : declares stmt ≡ Some (length after.world.functors - length so.world.functors, length after.maps - length so.maps)
  pub functors : length so.world.functors ≤ length after.world.functors
  pub maps : (more : List MapTable) × (after.maps ≡ so.maps ++ more)
  pub kept : (after.world.site ≡ so.world.site) × (after.world.types ≡ mid.world.types) × (after.world.budget ≡ so.world.budget)

-- a statement is accepted, and its types, or these and what it makes, have more cells than the budget
pub data IsOverBudget (k : Category) (so : Declarations) (stmt : Stmt) : Type 0 where
  by_types : refusal_over k so stmt ≡ None → so.world.budget < cells_with so.world (needs (ends_of so.maps) stmt) → IsOverBudget k so stmt
  by_answer : (mid : Declarations) (answer : Answer) (after : Declarations) → refusal_over k so stmt ≡ None → AreSealedFor stmt so mid
      → cells_with so.world (needs (ends_of so.maps) stmt) ≤ so.world.budget → AnswersOver k mid stmt answer after → after.world.site ≡ so.world.site → after.world.types ≡ mid.world.types
      → so.world.budget < world_cells after.world → IsOverBudget k so stmt

-- a statement is refused, or over the budget, or no memory was left
abbrev pub IsStoppedOver : Category → Declarations → Stmt → Stop → Type 0
IsStoppedOver k so stmt (stop.Refused fault) = refusal_over k so stmt ≡ Some fault
IsStoppedOver k so stmt stop.Budget = IsOverBudget k so stmt
IsStoppedOver k so stmt stop.NoMemory = ⊤
