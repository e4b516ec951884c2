use Rattle.std.proofs.Common.{◌≡◌, [], drop}
use Rattle.fin_category.specs.Masks.{all_added}
use Rattle.fin_category.specs.ArrowSets.{arrows_in}
use Rattle.closed_sets.specs.Closed.{chosen}
use Rattle.omega_object.proofs.listing.arrows_at.Given as goal

-- what is left gives the whole
abbrev pub invariant-places : goal.invariant-places
invariant-places l = all_added (arrows_in l.mask) (chosen (drop l.i l.arrows) (drop l.i l.set)) ≡ all_added [] (chosen l.arrows l.set)
