use Rattle.std.proofs.Common.{◌≡◌, ◌++◌, drop}
use Rattle.topos_model.proofs.value.+val.Given as goal

abbrev pub invariant-ValCopied::copy-loop-entry : goal.invariant-ValCopied::copy-loop-entry
invariant-ValCopied::copy-loop-entry l = l.row ++ drop l.entry-index l.entry-items ≡ l.entry-items

abbrev pub invariant-ValCopied::copy-loop-assign : goal.invariant-ValCopied::copy-loop-assign
invariant-ValCopied::copy-loop-assign l = l.row ++ drop l.assign-index l.assign-items ≡ l.assign-items
