use Rattle.std.proofs.Common.{◌≡◌, ◌++◌, flat_map}
use Rattle.std.specs.List.{range_with_len}
use Rattle.topos_report.specs.Tables.{map_line}
use Rattle.topos_report.proofs.tables.push_map_stages.Given as goal

abbrev pub invariant-loop-c : goal.invariant-loop-c
invariant-loop-c l = l.out.items ≡ l.fn.out.items ++ flat_map (map_line l.doc l.map) (range_with_len 0 l.c)
