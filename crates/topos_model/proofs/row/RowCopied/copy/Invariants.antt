use Rattle.std.proofs.Common.{◌≡◌, ◌++◌, drop}
use Rattle.topos_model.proofs.row.RowCopied.copy.Given as goal

abbrev pub invariant-loop-item : goal.invariant-loop-item
invariant-loop-item g l = l.row ++ drop l.item-index l.item-items ≡ l.item-items
