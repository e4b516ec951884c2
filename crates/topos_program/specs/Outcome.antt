-- The report of a text.
use Rattle.std.specs.Prelude.{◌≡◌, ℕ, ◌+◌, ◌<◌, ◌⊎◌, List, [], length, take, drop, None, Some, IfSome}
use Rattle.std.specs.declared.option.Option.{Option}
use Rattle.std.specs.Io.KnownBytes.{Appends}
use Rattle.topos_model.specs.declared.doc.Doc.{Doc}
use Rattle.topos_model.specs.declared.answer.Answer.{Answer}
use Rattle.topos_model.specs.declared.answer.End.{End}
use Rattle.topos_model.specs.declared.answer.End.TheVariants.{Refused}
use Rattle.topos_model.specs.declared.fault.Fault.{Fault}
use Rattle.topos_session.specs.StagedRun.{StagedRunOf}
use Rattle.topos_text.specs.TextFaults.{SpellsWithin, TextFault}
use Rattle.topos_report.specs.EmptyDocument.{empty_document}
use Rattle.topos_report.specs.Report.{report}
use Rattle.topos_program.specs.declared.status.Status.{Status}
use Rattle.topos_program.specs.declared.status.Status.TheVariants as status
use Rattle.topos_program.specs.Status.{status_of}

-- how many bytes a text may have
abbrev pub limit : ℕ
limit = 1048576

-- how many cells a run may have
abbrev pub budget : ℕ
budget = 4000000

-- The report of the answers of the document that the text spells, which stand in the run relation to it.
pub record IsDocumentReport (text written : List ℕ) (ended : Status) : Type 0 where
  pub doc : Doc
  pub spells : SpellsWithin text doc
  pub answers : List Answer
  pub end : End
  pub runs : StagedRunOf doc budget answers end
  pub written_is : written ≡ report doc answers end
  pub status_is : ended ≡ status_of answers end

-- The report of a text that is refused for its first fault: it speaks of no document.
pub record IsTextRefusal (text written : List ℕ) (ended : Status) : Type 0 where
  pub fault : Fault
  pub is_fault : TextFault text fault
  pub written_is : written ≡ report empty_document [] (Refused None fault)
  pub status_is : ended ≡ status.Refused

-- a text is the text of a document, or refused
abbrev pub IsReportOf : List ℕ → List ℕ → Status → Type 0
IsReportOf text written ended = IsDocumentReport text written ended ⊎ IsTextRefusal text written ended

-- the source was read to its end, or one byte past the limit
abbrev pub IsReadOut : List ℕ → Option (List ℕ) → Type 0
IsReadOut text left = left ≡ Some (drop (limit + 1) text)

-- This is a report of the text, and the source has this left.
pub record Reports (text written : List ℕ) (ended : Status) (left : Option (List ℕ)) : Type 0 where
  pub report_is : IsReportOf text written ended
  pub read_out : IsReadOut text left

-- A report of the text was written whole.
pub record WritesReport (text : List ℕ) (ended : Status) (left old new : Option (List ℕ)) : Type 0 where
  pub written : List ℕ
  pub reports : Reports text written ended left
  pub appended : Appends old new written

-- A front part of a report of the text was written. The report is longer than the room that the sink was sure of.
pub record WritesPart (text : List ℕ) (left old new : Option (List ℕ)) (sure : Option ℕ) : Type 0 where
  pub written : List ℕ
  pub ended : Status
  pub reports : Reports text written ended left
  pub count : ℕ
  pub appended : Appends old new (take count written)
  pub beyond : IfSome sure (λ room. room < length written)
