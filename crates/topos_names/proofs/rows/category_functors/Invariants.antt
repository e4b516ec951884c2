use Rattle.std.proofs.Common.{◌≡◌, map, take}
use Rattle.topos_names.proofs.rows.category_functors.Given as goal

abbrev pub invariant-loop-number : goal.invariant-loop-number
invariant-loop-number l = l.rows ≡ map (λ f. f.0) (take l.number l.table)
