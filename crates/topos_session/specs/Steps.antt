-- The beginning of a run, and one statement of a run that is under way.
use Rattle.std.specs.Prelude.{◌≡◌, ℕ, ◌+◌, true, [], slice_get, None, Some, ⊤}
use Rattle.topos_model.specs.declared.doc.Doc.{Doc}
use Rattle.topos_model.specs.declared.stmt.Stmt.{Stmt}
use Rattle.topos_model.specs.declared.answer.Answer.{Answer}
use Rattle.topos_model.specs.declared.answer.End.TheVariants as end
use Rattle.topos_model.specs.declared.fault.Fault.TheVariants as refused
use Rattle.fin_category.specs.declared.fault.CatFault.{CatFault}
use Rattle.fin_category.specs.declared.fault.CatFault.TheVariants as category_fault
use Rattle.topologies.specs.declared.fault.TopFault.{TopFault}
use Rattle.topologies.specs.declared.fault.TopFault.TheVariants as topology_fault
use Rattle.topos_session.specs.declared.stop.Stop.{Stop}
use Rattle.topos_session.specs.declared.stop.Stop.TheVariants as stop
use Rattle.topos_session.specs.declared.stop.SiteStop.{SiteStop}
use Rattle.topos_session.specs.declared.stop.SiteStop.TheVariants as site_stop
use Rattle.topos_model.specs.statements.Declarations.{nothing}
use Rattle.topos_session.specs.Ranges.{has_range}
use Rattle.topos_model.specs.statements.Run.{site_refusal, IsAnswered, IsRefused, IsOver}
use Rattle.topos_session.specs.Built.{today}
use Rattle.topos_session.specs.StagedRun.{StagedRunOf}
use Rattle.topos_session.specs.Progress.{Progress}

-- the stop by a fault of a listed category
abbrev pub category_stop : Doc → CatFault → SiteStop
category_stop doc (category_fault.CompositeMissing g f) = site_stop.Refused doc (refused.CompositeMissing g f)
category_stop doc (category_fault.CompositeTwice g f) = site_stop.Refused doc (refused.CompositeTwice g f)
category_stop doc (category_fault.CompositeEnds g f h) = site_stop.Refused doc (refused.CompositeEnds g f h)
category_stop doc (category_fault.NotAssociative h g f) = site_stop.Refused doc (refused.NotAssociative h g f)
category_stop doc category_fault.NoMemory = site_stop.NoMemory

-- the stop by a fault of the topology
abbrev pub topology_stop : Doc → TopFault → SiteStop
topology_stop doc (topology_fault.NotStable at cover f) = site_stop.Refused doc (refused.NotStable 0 at cover f)
topology_stop doc (topology_fault.NotTransitive at cover other) = site_stop.Refused doc (refused.NotTransitive 0 at cover other)
topology_stop doc topology_fault.NoMemory = site_stop.NoMemory

-- a run that begins: nothing refuses the document before its statements, and nothing is answered yet
pub record IsOpened (doc : Doc) (budget : ℕ) (p : Progress) : Type 0 where
  pub range : has_range doc ≡ true
  pub accepted : site_refusal today doc ≡ None
  pub begins : p ≡ record { doc = doc; budget = budget; declared = nothing; answered = 0; live = true }

-- the run is no more than a refusal, and the document is handed back
abbrev pub IsSiteStop : Doc → SiteStop → Type 0
IsSiteStop doc (site_stop.Refused back fault) = (back ≡ doc) × ((budget : ℕ) → StagedRunOf doc budget [] (end.Refused None fault))
IsSiteStop doc site_stop.NoMemory = ⊤

-- the next statement gave this answer, and the run goes on behind it
pub record IsStep (p : Progress) (answer : Answer) (q : Progress) : Type 0 where
  pub stmt : Stmt
  pub next : slice_get p.doc.stmts p.answered ≡ Some stmt
  pub answers : IsAnswered today p.doc p.budget p.declared stmt answer q.declared
  pub moved : (q.doc ≡ p.doc) × (q.budget ≡ p.budget) × (q.answered ≡ p.answered + 1) × (q.live ≡ true)

-- a statement is refused, or over the budget, or no memory was left
abbrev pub IsStatementStop : Progress → Stmt → Stop → Type 0
IsStatementStop p stmt (stop.Refused fault) = IsRefused today p.doc p.budget p.declared stmt fault
IsStatementStop p stmt stop.Budget = IsOver today p.doc p.budget p.declared stmt
IsStatementStop p stmt stop.NoMemory = ⊤

-- the next statement gave no answer
pub record IsStop (p : Progress) (stop : Stop) : Type 0 where
  pub stmt : Stmt
  pub next : slice_get p.doc.stmts p.answered ≡ Some stmt
  pub refused : IsStatementStop p stmt stop
