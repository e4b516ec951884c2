use Rattle.std.proofs.Common.{◌≡◌, drop}
use Rattle.finite_lists.specs.First.{first}
use Rattle.topos_model.specs.categories.Category.{arrows}
use Rattle.topos_model.specs.categories.Filling.{filled_rows}
use Rattle.presheaf_core.specs.Filling.{row_fault, AreRowsBelow}
use Rattle.presheaf_core.proofs.rows.filled_rows.Given as goal

abbrev pub invariant-loop-f : goal.invariant-loop-f
invariant-loop-f l = record {
  rows : l.rows ≡ filled_rows l.cat l.raw l.f;
  below : AreRowsBelow l.cat l.raw l.f l.rows;
  search : first (row_fault l.cat l.raw) (arrows l.cat) ≡ first (row_fault l.cat l.raw) (drop l.f (arrows l.cat));
}
