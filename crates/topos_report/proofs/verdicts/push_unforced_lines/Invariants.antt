use Rattle.std.proofs.Common.{◌≡◌, ◌++◌, flat_map}
use Rattle.std.specs.List.{range_with_len}
use Rattle.topos_report.specs.AnswerLines.{unforced_line}
use Rattle.topos_report.proofs.verdicts.push_unforced_lines.Given as goal

abbrev pub invariant-loop-c : goal.invariant-loop-c
invariant-loop-c l = l.out.items ≡ l.fn.out.items ++ flat_map (unforced_line l.doc l.types l.stages) (range_with_len 0 l.c)
