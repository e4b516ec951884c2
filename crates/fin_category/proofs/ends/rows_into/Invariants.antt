use Rattle.std.proofs.Common.{◌≡◌}
use Rattle.fin_category.specs.Tables.{ending_at_each}
use Rattle.fin_category.proofs.ends.rows_into.Given as goal

abbrev pub invariant-loop-c : goal.invariant-loop-c
invariant-loop-c l = l.rows ≡ ending_at_each l.ends l.c
