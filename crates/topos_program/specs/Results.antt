-- The text that is written for accepted words and a text that was read, and the status.
use Rattle.std.specs.Prelude.{ℕ, List, [], None}
use Rattle.topos_model.specs.declared.doc.Doc.{Doc}
use Rattle.topos_model.specs.declared.answer.Answer.{Answer}
use Rattle.topos_model.specs.declared.answer.End.{End}
use Rattle.topos_model.specs.declared.answer.End.TheVariants as end
use Rattle.topos_model.specs.declared.fault.Fault.{Fault}
use Rattle.topos_model.specs.statements.Run.{RunOf}
use Rattle.topos_model.specs.statements.Check.{CheckOf}
use Rattle.topos_text.specs.TextFaults.{SpellsWithin, TextFault}
use Rattle.topos_report.specs.WholeReport.{whole_report}
use Rattle.topos_report.specs.EmptyDocument.{empty_document}
use Rattle.topos_program.specs.declared.words.Mode.TheVariants.{Run, Check, Make}
use Rattle.topos_program.specs.declared.words.Words.{Words}
use Rattle.topos_program.specs.declared.status.Status.{Status}
use Rattle.topos_program.specs.declared.status.Status.TheVariants.{Refused}
use Rattle.topos_program.specs.Status.{status_of}
use Rattle.topos_program.specs.Generated.{generate, made_text}

-- the report of a text that is refused: it speaks of no document
abbrev pub fault_report : Fault → List ℕ
fault_report fault = whole_report empty_document [] (end.Refused None fault)

-- a text is refused, or the document that it spells is run
pub data Ran (budget : ℕ) (bytes : List ℕ) : List ℕ → Status → Type 0 where
  refused : {fault : Fault} → TextFault bytes fault → Ran budget bytes (fault_report fault) Refused
  answered : {doc : Doc} {answers : List Answer} {end : End} → SpellsWithin bytes doc → RunOf doc budget answers end
      → Ran budget bytes (whole_report doc answers end) (status_of answers end)

-- a text is refused, or the document that it spells is checked
pub data Checked (budget : ℕ) (bytes : List ℕ) : List ℕ → Status → Type 0 where
  refused : {fault : Fault} → TextFault bytes fault → Checked budget bytes (fault_report fault) Refused
  checked : {doc : Doc} {end : End} → SpellsWithin bytes doc → CheckOf doc budget end → Checked budget bytes (whole_report doc [] end) (status_of [] end)

-- a text is made and run
pub data Made (budget size : ℕ) : List ℕ → Status → Type 0 where
  made : {report : List ℕ} {status : Status} → Ran budget (generate size) report status → Made budget size (made_text size report) status

-- by the mode; what is made does not depend on the text that was read
abbrev pub Outcome : Words → List ℕ → List ℕ → Status → Type 0
Outcome w bytes text status = elim w.mode [ Run ↦ Ran w.budget bytes text status | Check ↦ Checked w.budget bytes text status | Make ↦ Made w.budget w.size text status ]
