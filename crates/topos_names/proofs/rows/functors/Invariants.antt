use Rattle.std.proofs.Common.{◌≡◌, map, take}
use Rattle.topos_names.specs.Scopes.{functor_name}
use Rattle.topos_names.proofs.rows.functors.Given as goal

abbrev pub invariant-loop-number : goal.invariant-loop-number
invariant-loop-number l = l.rows ≡ map functor_name (take l.number l.table)
