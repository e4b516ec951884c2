use Rattle.std.proofs.Common.{◌≡◌, take}
use Rattle.topos_model.specs.presheaves.Maps.{after_component}
use Rattle.presheaf_core.proofs.rows.after_row.Given as goal

abbrev pub invariant-loop-x : goal.invariant-loop-x
invariant-loop-x l = l.row ≡ after_component l.second (take l.x-index l.first)
