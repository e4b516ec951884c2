use Rattle.std.proofs.Common.{◌≡◌, ◌++◌, take}
use Rattle.std.specs.List.{flat_map}
use Rattle.topos_report.specs.AnswerLines.{classified_line}
use Rattle.topos_report.proofs.verdicts.push_classified_lines.Given as goal

abbrev pub invariant-loop-classified : goal.invariant-loop-classified
invariant-loop-classified l = l.out.items ≡ l.fn.out.items ++ flat_map (classified_line l.doc l.types l.c) (take l.classified-index l.tuples)
