use Rattle.std.proofs.Common.{◌≡◌}
use Rattle.truth_tables.specs.Tables.{row}
use Rattle.term_objects.proofs.TrueRows.{numbers_to, count_to}
use Rattle.term_objects.proofs.subobjects.kept_row.Given as goal

-- those of the first so many elements
abbrev pub invariant-loop-x : goal.invariant-loop-x
invariant-loop-x l = record {
  numbers : l.numbers ≡ numbers_to l.truths l.x;
  places : l.places ≡ row l.x (count_to l.truths);
}
