use Rattle.std.proofs.Common.{◌≡◌, drop}
use Rattle.finite_lists.specs.First.{first}
use Rattle.topos_model.specs.presheaves.MapFaults.{entry_fault}
use Rattle.natural_maps.proofs.images.entry_fault.Given as goal

abbrev pub invariant-loop-entry : goal.invariant-loop-entry
invariant-loop-entry l = first (entry_fault l.p l.q) l.entries ≡ first (entry_fault l.p l.q) (drop l.entry-index l.entries)
