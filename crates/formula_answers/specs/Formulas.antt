-- Terms and formulas over a site with its presheaves, the types that are counted, and maps by their tables.
use Rattle.std.specs.Prelude.{◌≡◌, ℕ, ◌<◌, ◌^◌, List, map, length, Ok, Some}
use denote.Bor.{Bor}
use Rattle.finite_lists.specs.Members.{In}
use Rattle.topos_model.specs.declared.ty.Ty.{Ty, Base, Omega}
use Rattle.topos_model.specs.declared.term.Term.{Term}
use Rattle.topos_model.specs.declared.context.MapTable.{MapTable}
use Rattle.topos_model.specs.formulas.Typing.{typed}
use Rattle.topos_model.specs.formulas.Forcing.{World}
use Rattle.topos_model.specs.formulas.TermLaws.{NameSheaves}
use Rattle.topos_model.specs.statements.Needs.{term_needs}
use Rattle.functor_store.specs.Faithful.{Holds}
use Rattle.omega_object.specs.declared.omega.Omega.{Omega as TruthValues}
use Rattle.internal_interp.specs.declared.interpreter.Interpreter.{Interpreter}
use Rattle.element_values.specs.declared.elements.Elements.{Elements}
use Rattle.internal_interp.specs.Known.{Knows}
use Rattle.sealed_world.specs.SealedWorlds.{CountedWorld, HasTypes}
use Rattle.formula_answers.specs.MapTables.{ends_of, pairs_of, AreMapTables}

-- what terms are read in
abbrev pub world_of : CountedWorld → List MapTable → World
world_of w tables = record { site = w.site; functors = w.functors; maps = map (pairs_of w.site w.functors) tables }

-- a term of a type over a context, the innermost variable first: all types that it counts are there, and of sheaves
pub record IsTermOver (w : CountedWorld) (tables : List MapTable) (Γ : List Ty) (t : Term) (U : Ty) : Type 0 where
  pub maps : AreMapTables w.site w.functors tables
  pub typing : typed (ends_of tables) Γ t ≡ Ok U
  pub named : (n : ℕ) → In (term_needs (ends_of tables) Γ t) (Base n) → n < length w.functors
  pub counted : HasTypes (term_needs (ends_of tables) Γ t) w
  pub sheaves : NameSheaves (world_of w tables) (term_needs (ends_of tables) Γ t)

abbrev pub IsFormulaOver : CountedWorld → List MapTable → List Ty → Term → Type 0
IsFormulaOver w tables Γ φ = IsTermOver w tables Γ φ Omega

-- what it is interpreted by
pub record Serves (w : CountedWorld) (tables : List MapTable) (i : Interpreter) : Type 0 where
  pub knows : Knows (world_of w tables) (ends_of tables) i
  pub few : w.site.category.objects < 2 ^ 32
  pub presheaves : (n : ℕ) → n < length w.functors → Holds i.store.now (Base n)
  pub types : (T : Ty) → In w.types T → Holds i.store.now T
  pub truth_values : In w.types Omega → (Ω : Bor TruthValues) × (i.omega ≡ Some Ω)

-- what its elements are read from
abbrev pub reading : Interpreter → Elements
reading i = record { site = i.site; store = i.store; omega = i.omega }
