-- The run of a document as far as the language is run.
use Rattle.std.specs.Prelude.{◌≡◌, ℕ, false, true, List, [], None}
use Rattle.topos_model.specs.declared.doc.Doc.{Doc}
use Rattle.topos_model.specs.declared.answer.Answer.{Answer}
use Rattle.topos_model.specs.declared.answer.End.{End}
use Rattle.topos_model.specs.declared.answer.End.TheVariants.{Refused}
use Rattle.topos_model.specs.declared.fault.Fault.TheVariants.{NotBuilt}
use Rattle.topos_session.specs.Ranges.{has_range}
use Rattle.topos_model.specs.statements.Run.{RunsWith}
use Rattle.topos_session.specs.Built.{today}

-- documents whose numbers are out of range are spelled by no text, and refused
pub data StagedRunOf (doc : Doc) (budget : ℕ) : List Answer → End → Type 0 where
  out_of_range : has_range doc ≡ false → StagedRunOf doc budget [] (Refused None NotBuilt)
  in_range : {answers : List Answer} {end : End} → has_range doc ≡ true → RunsWith today doc budget answers end → StagedRunOf doc budget answers end
