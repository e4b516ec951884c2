use Rattle.std.proofs.Common.{◌≡◌, ◌+◌, map}
use Rattle.std.specs.List.{range_with_len}
use Rattle.fin_category.specs.ArrowSets.{arrows_in}
use Rattle.omega_object.specs.TruthValues.{closed_sieves}
use Rattle.omega_object.proofs.CellSums.{cells_below}
use Rattle.omega_object.proofs.tables.sieves_within.Given as goal

abbrev pub invariant-loop-c : goal.invariant-loop-c
invariant-loop-c l = record {
  spent : l.left + cells_below l.site l.c ≡ l.room;
  made : map (map arrows_in) l.all ≡ map (closed_sieves l.site) (range_with_len 0 l.c);
}
