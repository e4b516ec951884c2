use Rattle.std.proofs.Common.{◌≡◌}
use Rattle.truth_tables.specs.Tables.{row}
use Rattle.internal_interp.proofs.scopes.single_tuples.Given as goal

abbrev pub invariant-loop-c : goal.invariant-loop-c
invariant-loop-c l = l.sizes ≡ row l._c (λ c. 1)
