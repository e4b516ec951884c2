use Rattle.std.proofs.Common.{◌≡◌, [], map, length, drop}
use Rattle.std.specs.List.{range_with_len}
use Rattle.fin_category.specs.Masks.{all_added}
use Rattle.fin_category.specs.ArrowSets.{arrows_in}
use Rattle.closed_sets.specs.Closed.{chosen}
use Rattle.truth_tables.specs.Tables.{along}
use Rattle.term_tables.proofs.truth_values.true_arrows.Given as goal

-- what is left gives the whole
abbrev pub invariant-places : goal.invariant-places
invariant-places l =
    let read = map (along l.truths l.sources l.restrictions) (range_with_len 0 (length l.arrows)) in
    all_added (arrows_in l.mask) (chosen (drop l.j l.arrows) (drop l.j read)) ≡ all_added [] (chosen l.arrows read)
