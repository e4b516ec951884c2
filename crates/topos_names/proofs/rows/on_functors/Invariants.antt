use Rattle.std.proofs.Common.{◌≡◌, map, take}
use Rattle.topos_names.specs.Scopes.{on_name}
use Rattle.topos_names.proofs.rows.on_functors.Given as goal

abbrev pub invariant-loop-number : goal.invariant-loop-number
invariant-loop-number l = l.rows ≡ map on_name (take l.number l.table)
