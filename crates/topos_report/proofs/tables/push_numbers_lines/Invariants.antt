use Rattle.std.proofs.Common.{◌≡◌, ◌++◌, flat_map}
use Rattle.std.specs.List.{range_with_len}
use Rattle.topos_report.specs.Names.{naming}
use Rattle.topos_report.specs.Tables.{numbers_line}
use Rattle.topos_report.proofs.tables.push_numbers_lines.Given as goal

abbrev pub invariant-loop-c : goal.invariant-loop-c
invariant-loop-c l = l.out.items ≡ l.fn.out.items ++ flat_map (numbers_line (naming l.doc) l.sizes) (range_with_len 0 l.c)
