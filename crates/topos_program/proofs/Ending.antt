-- How a run ends whose report is written.
use Rattle.std.proofs.Common.{List, Bool, true, false, cond}
use Rattle.std.specs.List.{list_all}
use Rattle.topos_model.specs.declared.answer.Answer.{Answer}
use Rattle.topos_model.specs.declared.answer.End.{End}
use Rattle.topos_model.specs.declared.answer.End.TheVariants.{Whole, Checked, Refused, Budget}
use Rattle.topos_program.specs.declared.status.Status.TheVariants.{Done, NotValid}
use Rattle.topos_program.specs.Status.{is_valid, status_of, IsReported}

chosen : (b : Bool) → IsReported (cond b Done NotValid)
chosen true = tt
chosen false = tt

pub status_reported : (answers : List Answer) (end : End) → IsReported (status_of answers end)
status_reported answers (Whole cells) = chosen (list_all is_valid answers)
status_reported answers (Checked statements cells) = tt
status_reported answers (Refused at fault) = tt
status_reported answers (Budget at) = tt
