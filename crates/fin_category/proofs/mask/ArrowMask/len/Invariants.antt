use Rattle.std.proofs.Common.{◌≡◌, ◌+◌, length}
use Rattle.fin_category.specs.ArrowSets.{arrows_in, left_in}
use Rattle.fin_category.proofs.mask.ArrowMask.len.Given as goal

-- what is counted and what is left are all
abbrev pub invariant-loop-arrow : goal.invariant-loop-arrow
invariant-loop-arrow l =
    (goal.iterator-loop-arrow).can_next l._arrow-iterator ×
    (goal.iterator-loop-arrow).is_finite l._arrow-iterator ×
    (l.len + length (left_in l._arrow-iterator) ≡ length (arrows_in l.fn.self))
