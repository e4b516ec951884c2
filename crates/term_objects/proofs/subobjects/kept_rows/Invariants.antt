use Rattle.std.proofs.Common.{◌≡◌, [], length, get_or}
use Rattle.truth_tables.specs.Tables.{row}
use Rattle.term_objects.specs.KeptElements.{true_numbers, true_counts}
use Rattle.term_objects.proofs.subobjects.kept_rows.Given as goal

-- those at the objects so far
abbrev pub invariant-loop-c : goal.invariant-loop-c
invariant-loop-c l = record {
  sizes : l.sizes ≡ row l.c (λ c. length (true_numbers (get_or l.truths c [])));
  numbers : l.all_numbers ≡ row l.c (λ c. true_numbers (get_or l.truths c []));
  places : l.all_places ≡ row l.c (λ c. true_counts (get_or l.truths c []));
}
