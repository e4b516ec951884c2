-- The statuses that a run ends with.
use Rattle.std.specs.Prelude.{ℕ, Bool, true, cond, List}
use Rattle.std.specs.List.{list_all}
use Rattle.topos_model.specs.declared.answer.Answer.{Answer}
use Rattle.topos_model.specs.declared.answer.Answer.TheVariants.{Verdict}
use Rattle.topos_model.specs.declared.answer.End.{End}
use Rattle.topos_model.specs.declared.answer.End.TheVariants as end
use Rattle.topos_report.specs.AnswerLines.{is_empty}
use Rattle.topos_program.specs.declared.status.Status.{Status}
use Rattle.topos_program.specs.declared.status.Status.TheVariants.{Done, NotValid, Refused, Budget, ReadFault, WriteFault, NoMemory, Usage}

-- not a verdict with a tuple that is not forced
abbrev pub is_valid : Answer → Bool
is_valid (Verdict ctx unforced) = list_all is_empty unforced
is_valid _ = true

-- the status of a run whose report is written: a whole one is done, or has a verdict that is not valid
abbrev pub status_of : List Answer → End → Status
status_of answers (end.Whole cells) = cond (list_all is_valid answers) Done NotValid
status_of answers (end.Checked statements cells) = Done
status_of answers (end.Refused at fault) = Refused
status_of answers (end.Budget at) = Budget

-- a whole report is written
abbrev pub IsReported : Status → Type 0
IsReported Done = Unit {0}
IsReported NotValid = Unit {0}
IsReported Refused = Unit {0}
IsReported Budget = Unit {0}
IsReported ReadFault = ⊥
IsReported WriteFault = ⊥
IsReported NoMemory = ⊥
IsReported Usage = ⊥

-- the number that the program ends with
abbrev pub code_of : Status → ℕ
code_of Done = 0
code_of NotValid = 1
code_of Refused = 2
code_of Budget = 3
code_of ReadFault = 4
code_of WriteFault = 5
code_of NoMemory = 6
code_of Usage = 7
