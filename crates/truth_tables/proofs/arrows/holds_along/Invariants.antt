use Rattle.std.proofs.Common.{◌≡◌, true, take}
use Rattle.std.specs.List.{list_all}
use Rattle.truth_tables.specs.Tables.{along}
use Rattle.truth_tables.proofs.arrows.holds_along.Given as goal

abbrev pub invariant-loop-j : goal.invariant-loop-j
invariant-loop-j l = list_all (along l.truths l.sources l.restrictions) (take l.j-index l.chosen) ≡ true
