use Rattle.std.proofs.Common.{◌≡◌, ◌++◌}
use Rattle.fin_category.specs.ArrowSets.{arrows_in, left_in}
use Rattle.element_values.proofs.truth_values.arrows_of.Given as goal

-- what is left gives the whole
abbrev pub invariant-loop-f : goal.invariant-loop-f
invariant-loop-f l =
    (goal.iterator-loop-f).can_next l.f-iterator × (goal.iterator-loop-f).is_finite l.f-iterator × (l.arrows ++ left_in l.f-iterator ≡ arrows_in l.fn.set)
