use Rattle.std.proofs.Common.{◌≡◌, true, take}
use Rattle.std.specs.List.{list_all}
use Rattle.topos_report.specs.AnswerLines.{is_empty}
use Rattle.topos_report.proofs.verdicts.are_empty.Given as goal

abbrev pub invariant-loop-tuples : goal.invariant-loop-tuples
invariant-loop-tuples l = list_all is_empty (take l.tuples-index l.stages) ≡ true
