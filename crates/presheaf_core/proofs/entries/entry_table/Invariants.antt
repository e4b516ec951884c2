use Rattle.presheaf_core.proofs.EntryRows.{HasEntriesFrom}
use Rattle.presheaf_core.proofs.entries.entry_table.Given as goal

abbrev pub invariant-loop-i : goal.invariant-loop-i
invariant-loop-i l = HasEntriesFrom l.entries l.size l.i l.table.items
