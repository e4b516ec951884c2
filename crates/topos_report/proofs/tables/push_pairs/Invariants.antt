use Rattle.std.proofs.Common.{◌≡◌, ◌++◌, take}
use Rattle.topos_report.specs.Tables.{listed, pair_entry}
use Rattle.topos_report.proofs.tables.push_pairs.Given as goal

abbrev pub invariant-loop-i : goal.invariant-loop-i
invariant-loop-i l = l.out.items ≡ l.fn.out.items ++ listed (pair_entry l.doc l.ends l.c) (take l.i l.pairs)
