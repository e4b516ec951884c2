use Rattle.std.proofs.Common.{◌≡◌, ◌++◌, take}
use Rattle.topos_report.specs.Tables.{listed, with_places, arrow_text}
use Rattle.topos_report.proofs.tables.push_row.Given as goal

abbrev pub invariant-loop-x : goal.invariant-loop-x
invariant-loop-x l = l.out.items ≡ l.fn.out.items ++ listed arrow_text (take l.x (with_places l.row))
