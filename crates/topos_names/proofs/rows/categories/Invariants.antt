use Rattle.std.proofs.Common.{◌≡◌, map, take}
use Rattle.topos_names.specs.Scopes.{category_name}
use Rattle.topos_names.proofs.rows.categories.Given as goal

abbrev pub invariant-loop-number : goal.invariant-loop-number
invariant-loop-number l = l.rows ≡ map category_name (take l.number l.table)
