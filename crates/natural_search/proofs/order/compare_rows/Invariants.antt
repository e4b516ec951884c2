use Rattle.std.proofs.Common.{◌≡◌, take}
use Rattle.natural_search.proofs.order.compare_rows.Given as goal

abbrev pub invariant-places : goal.invariant-places
invariant-places l = take l.i l.row ≡ take l.i l.other
