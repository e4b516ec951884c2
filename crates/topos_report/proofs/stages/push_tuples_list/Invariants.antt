use Rattle.std.proofs.Common.{◌≡◌, ◌++◌}
use Rattle.std.specs.List.{flat_map, range_with_len}
use Rattle.topos_report.specs.Stages.{tuples_line_at}
use Rattle.topos_report.proofs.stages.push_tuples_list.Given as goal

abbrev pub invariant-loop-c : goal.invariant-loop-c
invariant-loop-c l = l.out.items ≡ l.fn.out.items ++ flat_map (tuples_line_at l.doc l.types l.stages) (range_with_len 0 l.c)
