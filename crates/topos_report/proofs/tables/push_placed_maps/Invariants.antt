use Rattle.std.proofs.Common.{◌≡◌, ◌++◌, flat_map}
use Rattle.std.specs.List.{range_with_len}
use Rattle.topos_report.specs.AnswerLines.{listed_map_lines}
use Rattle.topos_report.proofs.tables.push_placed_maps.Given as goal

abbrev pub invariant-loop-i : goal.invariant-loop-i
invariant-loop-i l = l.out.items ≡ l.fn.out.items ++ flat_map (listed_map_lines l.doc l.maps) (range_with_len 0 l.i)
