use Rattle.std.proofs.Common.{◌≡◌, ◌++◌, flat_map}
use Rattle.std.specs.List.{range_with_len}
use Rattle.topos_report.specs.Names.{naming}
use Rattle.topos_report.specs.Tables.{along_line}
use Rattle.topos_report.proofs.tables.push_along_lines.Given as goal

abbrev pub invariant-loop-i : goal.invariant-loop-i
invariant-loop-i l = l.out.items ≡ l.fn.out.items ++ flat_map (along_line (naming l.doc) l.along) (range_with_len 0 l.i)
