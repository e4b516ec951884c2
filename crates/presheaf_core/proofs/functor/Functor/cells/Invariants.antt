use Rattle.std.proofs.Common.{◌≡◌, ◌*◌, ◌≤◌, ◌^◌}
use Rattle.presheaf_core.proofs.CellSums.{cells_below}
use Rattle.presheaf_core.proofs.functor.Functor.cells.Given as goal

abbrev pub invariant-loop-c : goal.invariant-loop-c
invariant-loop-c l = record {
  sum : l.cells ≡ cells_below l.cat l.self.sizes l.c;
  few : l.cells ≤ l.c * 2 ^ 42;
}
