use Rattle.std.proofs.Common.{take}
use Rattle.topos_model.specs.presheaves.PresheafFaults.{has_entry}
use Rattle.presheaf_core.specs.Tables.{IsTable}
use Rattle.presheaf_core.proofs.entries.entered.Given as goal

abbrev pub invariant-loop-entry : goal.invariant-loop-entry
invariant-loop-entry l = IsTable (has_entry (take l.entry-index l.entries)) l.size l.seen
