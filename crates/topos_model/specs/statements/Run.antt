-- The run of a document: its site is checked, and its statements are taken in order, each until something ends the run or it answers.
use Rattle.std.specs.Prelude.{◌≡◌, ◌≤◌, ◌<◌, ℕ, ◌+◌, Bool, true, false, not, List, [], ◌∷◌, Option, Some, None}
use Rattle.finite_lists.specs.First.{or_else, some_if}
use Rattle.topos_model.specs.declared.doc.TopDecl.{TopDecl}
use Rattle.topos_model.specs.declared.doc.Doc.{Doc}
use Rattle.topos_model.specs.declared.stmt.Stmt.{Stmt}
use Rattle.topos_model.specs.declared.answer.Answer.{Answer}
use Rattle.topos_model.specs.declared.answer.End.{End}
use Rattle.topos_model.specs.declared.answer.End.TheVariants.{Whole, Refused, Budget}
use Rattle.topos_model.specs.declared.fault.Fault.{Fault}
use Rattle.topos_model.specs.declared.fault.Fault.TheVariants.{NotBuilt}
use Rattle.topos_model.specs.categories.CategoryFaults.{category_fault}
use Rattle.topos_model.specs.statements.Declarations.{Declared, nothing, with_types, cells_so_far}
use Rattle.topos_model.specs.statements.Answers.{Answers}
use Rattle.topos_model.specs.statements.Refusals.{topologies_fault, IsRefusal, late_refusal}

-- how much of the language is run: which statements and which topologies
pub record Extent : Type 0 where
  pub statements : Stmt → Bool
  pub topologies : List TopDecl → Bool

-- all of it
abbrev pub everything : Extent
everything = record { statements = λ stmt. true; topologies = λ tops. true }

module _ (extent : Extent) (doc : Doc) where
  -- why the document is refused before its statements: topologies that are not run are refused where the category is lawful
  unfoldable pub site_refusal : Option Fault
  site_refusal =
      or_else (category_fault doc.cat) (or_else (some_if (not (extent.topologies doc.tops)) NotBuilt) (topologies_fault doc))

module _ (extent : Extent) (doc : Doc) (budget : ℕ) where
  -- nothing refuses the statement before its types are counted, and they are within the budget
  pub record IsCounted (d : Declared) (stmt : Stmt) : Type 0 where
    pub is_run : extent.statements stmt ≡ true
    pub accepted : IsRefusal doc d stmt None
    pub within : cells_so_far doc (with_types d stmt) ≤ budget

  -- the statement answers, what it counts is within the budget, and this is declared behind it
  pub record IsAnswered (d : Declared) (stmt : Stmt) (answer : Answer) (next : Declared) : Type 0 where
    pub types : IsCounted d stmt
    pub goes_on : late_refusal doc (with_types d stmt) stmt ≡ None
    pub answers : Answers doc (with_types d stmt) stmt answer next
    pub within : cells_so_far doc next ≤ budget

  -- the statement is refused
  pub data IsRefused (d : Declared) (stmt : Stmt) : Fault → Type 0 where
    not_built : extent.statements stmt ≡ false → IsRefused d stmt NotBuilt
    at_once : {fault : Fault} → extent.statements stmt ≡ true → IsRefusal doc d stmt (Some fault) → IsRefused d stmt fault
    late : {fault : Fault} → IsCounted d stmt → late_refusal doc (with_types d stmt) stmt ≡ Some fault → IsRefused d stmt fault

  -- the cells with the statement's types alone are over the budget, or those with all that it counts
  pub data IsOver (d : Declared) (stmt : Stmt) : Type 0 where
    with_its_types : extent.statements stmt ≡ true → IsRefusal doc d stmt None → budget < cells_so_far doc (with_types d stmt) → IsOver d stmt
    with_its_answer : (answer : Answer) (next : Declared) → IsCounted d stmt → late_refusal doc (with_types d stmt) stmt ≡ None
        → Answers doc (with_types d stmt) stmt answer next → budget < cells_so_far doc next → IsOver d stmt

  -- the statements from number n on
  pub data Runs : Declared → ℕ → List Stmt → List Answer → End → Type 0 where
    ended : {d : Declared} {n : ℕ} → Runs d n [] [] (Whole (cells_so_far doc d))
    refused : {d : Declared} {n : ℕ} {stmt : Stmt} {rest : List Stmt} {fault : Fault} → IsRefused d stmt fault → Runs d n (stmt ∷ rest) [] (Refused (Some n) fault)
    over : {d : Declared} {n : ℕ} {stmt : Stmt} {rest : List Stmt} → IsOver d stmt → Runs d n (stmt ∷ rest) [] (Budget n)
    answered : {d next : Declared} {n : ℕ} {stmt : Stmt} {rest : List Stmt} {answer : Answer} {answers : List Answer} {end : End}
        → IsAnswered d stmt answer next → Runs next (n + 1) rest answers end → Runs d n (stmt ∷ rest) (answer ∷ answers) end

  -- the site is refused, or the statements after it are run
  pub data RunsWith : List Answer → End → Type 0 where
    site_refused : {fault : Fault} → site_refusal extent doc ≡ Some fault → RunsWith [] (Refused None fault)
    site_accepted : {answers : List Answer} {end : End} → site_refusal extent doc ≡ None
        → Runs nothing (doc.site_len + 1) doc.stmts answers end → RunsWith answers end

-- the answers and the end of a document
abbrev pub RunOf : Doc → ℕ → List Answer → End → Type 0
RunOf doc budget answers end = RunsWith everything doc budget answers end
