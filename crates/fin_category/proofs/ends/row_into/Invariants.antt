use Rattle.std.proofs.Common.{◌≡◌}
use Rattle.fin_category.proofs.Rows.{ending_below}
use Rattle.fin_category.proofs.ends.row_into.Given as goal

abbrev pub invariant-loop-f : goal.invariant-loop-f
invariant-loop-f l = l.row ≡ ending_below l.ends l.c l.f
