use Rattle.std.proofs.Common.{◌≡◌, [], map, take}
use Rattle.fin_category.specs.Masks.{all_added}
use Rattle.fin_category.specs.ArrowSets.{arrows_in}
use Rattle.closed_sets.specs.Closed.{chosen}
use Rattle.omega_object.proofs.listing.sieves_on.Given as goal

abbrev pub invariant-loop-set : goal.invariant-loop-set
invariant-loop-set l = map arrows_in l.rows ≡ map (λ a. all_added [] (chosen l.arrows a)) (take l.set-index l.set-items)
