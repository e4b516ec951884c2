-- The statements that declare elements of types: what they count, answer and are stopped by.
use Rattle.std.proofs.Common.{◌≡◌, ℕ, ◌≤◌, List, [], ◌∷◌, length, Option, Some, Result, Ok, Err, IfOk, OnOk, refl, sym, ap, subst, ◌∙◌, length-append, append-nil, arith}
use Rattle.topos_model.specs.declared.ty.Ty.{Ty}
use Rattle.topos_model.specs.declared.term.Term.{Term}
use Rattle.topos_model.specs.declared.stmt.Stmt.{Stmt}
use Rattle.topos_model.specs.declared.stmt.Stmt.TheVariants.{Build, Sub}
use Rattle.topos_model.specs.declared.answer.Answer.{Answer}
use Rattle.topos_model.specs.declared.answer.Answer.TheVariants.{Built}
use Rattle.topos_model.specs.declared.fault.Fault.{Fault}
use Rattle.topos_model.specs.categories.Category.{Category}
use Rattle.topos_model.specs.types.Types.{Presheaf}
use Rattle.topos_model.specs.Laws.{IsFunctor}
use Rattle.topos_model.specs.statements.Needs.{parts, needs, types_of, terms_of}
use Rattle.topos_model.specs.statements.Declarations.{DeclaredMap}
use Rattle.topos_model.specs.statements.Answers.{shape_of}
use Rattle.topos_model.specs.declared.context.MapTable.{MapTable}
use Rattle.formula_answers.specs.MapTables.{ends_of}
use Rattle.sealed_world.specs.SealedWorlds.{CountedWorld, world_cells, with_presheaf}
use Rattle.topos_session.specs.declared.declarations.Declarations.{Declarations}
use Rattle.topos_session.specs.declared.elements.Numbered.{Numbered}
use Rattle.topos_session.specs.declared.stop.Stop.{Stop}
use Rattle.topos_session.specs.declared.stop.Stop.TheVariants as stop
use Rattle.topos_session.specs.Ranges.{declares}
use Rattle.topos_session.specs.Declarations.{AreLawful, with_functor}
use Rattle.topos_session.specs.Elements.{MakesElements, AreElements, IsUnstored}
use Rattle.topos_session.specs.Statements.{AnswersOver, refusal_in_turn, refusal_over, map_needs, AreNeedsSealed, IsAnsweredOver, IsStoppedOver}
use Rattle.topos_session.proofs.LawfulDeclarations.{lawful_functor}
use Rattle.topos_session.proofs.SealedNeeds.{lawful_then, answered, answer_over}

-- what the two statements count
pub needs-Build : (tables : List MapTable) (under z : ℕ) (T : Ty) (u v : ℕ) → needs (ends_of tables) (Build under z T u v) ≡ parts T
unfolding needs types_of
needs-Build tables under z T u v = refl

pub needs-Sub : (tables : List MapTable) (under z : ℕ) (T : Ty) (φ : Term) (i : ℕ) → needs (ends_of tables) (Sub under z T φ i) ≡ map_needs tables T φ
unfolding needs types_of terms_of
needs-Sub tables under z T φ i = append-nil (map_needs tables T φ)

-- elements are declared, or they are over the budget
module _ (so : Declarations) (stmt : Stmt) (under : ℕ) (fault : Option Fault) (needed : List Ty) (refusal_is : refusal_over so.world.site.category so stmt ≡ refusal_in_turn so.world under fault needed)
    (needs_are : needs (ends_of so.maps) stmt ≡ needed) (mid : Declarations) (h : AreNeedsSealed under fault needed so mid) (Z : Presheaf) (maps : List DeclaredMap) (made : Numbered) (are : AreElements mid Z maps made)
    (answers : (answer : Answer) (after : Declarations) → MakesElements so.world.site.category mid Z maps answer after → AnswersOver so.world.site.category mid stmt answer after) where
  abbrev k : Category
  k = so.world.site.category

  abbrev after : Declarations
  after = with_functor mid made.functor made.tables

  category : mid.world.site.category ≡ so.world.site.category
  category = ap (λ (w : CountedWorld). w.site.category) h.types.grown.is

  budget : mid.world.budget ≡ so.world.budget
  budget = ap (λ (w : CountedWorld). w.budget) h.types.grown.is

  abbrev made_answer : Answer
  made_answer = Built (shape_of k made.functor) made.shapes

  makes : (answer : Answer) → answer ≡ Built (shape_of so.world.site.category made.functor) made.shapes → MakesElements so.world.site.category mid Z maps answer (with_functor mid made.functor made.tables)
  makes answer e = record {
    tables = made.tables;
    maps = rw (← are.functor) are.maps;
    shown = e ∙ ap (λ (X : Presheaf). Built (shape_of k X) made.shapes) are.functor ∙ ap (Built (shape_of k Z)) are.shapes;
    declared = ap (λ (X : Presheaf). with_functor mid X made.tables) are.functor;
  }

  pub elements_answered : AreLawful so.world.site.category so → declares stmt ≡ Some (1, length made.tables) → (answer : Answer) → answer ≡ Built (shape_of mid.world.site.category made.functor) made.shapes
      → world_cells (with_presheaf mid.world made.functor) ≤ mid.world.budget → IsAnsweredOver so.world.site.category so stmt answer (with_functor mid made.functor made.tables)
  elements_answered lawful counted answer e within =
      let then = lawful_then k so stmt under fault needed refusal_is needs_are mid h lawful in
      answered k so stmt under fault needed refusal_is needs_are mid h answer after 1 made.tables counted (answers answer after (makes answer (subst (λ (c : Category). answer ≡ Built (shape_of c made.functor) made.shapes) category e)))
      (lawful_functor k mid then made.functor made.tables (subst (λ c. IsFunctor c made.functor) category are.lawful) are.tables) (length-append mid.world.functors (made.functor ∷ [])) refl refl refl refl (omega (arith, within, budget))

  pub elements_declared : AreLawful so.world.site.category so → declares stmt ≡ Some (1, length made.tables) → (r : Result Answer Stop) (new : Declarations)
      → IfOk r (λ answer. answer ≡ Built (shape_of mid.world.site.category made.functor) made.shapes) → OnOk r (new ≡ with_functor mid made.functor made.tables) → OnOk r (world_cells new.world ≤ new.world.budget)
      → IfOk r (λ answer. IsAnsweredOver so.world.site.category so stmt answer new)
  elements_declared lawful counted (Ok answer) new shown declared within =
      subst (IsAnsweredOver k so stmt answer) (sym declared) (elements_answered lawful counted answer shown (subst (λ (d : Declarations). world_cells d.world ≤ d.world.budget) declared within))
  elements_declared lawful counted (Err stop) new shown declared within = tt

  pub elements_unstored : (s : Stop) → IsUnstored mid made.functor s → IsStoppedOver so.world.site.category so stmt s
  elements_unstored (stop.Refused fault) none = absurd none
  elements_unstored stop.Budget over = answer_over k so stmt under fault needed refusal_is needs_are mid h made_answer after (answers made_answer after (makes made_answer refl)) refl refl (omega (arith, over, budget))
  elements_unstored stop.NoMemory none = tt
