use Rattle.std.proofs.Common.{◌≡◌, map, take}
use Rattle.topos_session.proofs.maps.ends.Given as goal

abbrev pub invariant-loop-table : goal.invariant-loop-table
invariant-loop-table l = l.ends ≡ map (λ m. m.ends) (take l.table-index l.tables)
