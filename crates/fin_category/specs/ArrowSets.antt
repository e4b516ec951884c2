-- The members of a set of arrows, and those that are left of it.
use Rattle.std.specs.Prelude.{ℕ, List}
use Rattle.fin_category.specs.declared.mask.ArrowMask.{ArrowMask}
use Rattle.fin_category.specs.declared.arrow_iter.ArrowIter.{ArrowIter}
use Rattle.fin_category.specs.Masks.{members}

-- in rising order
abbrev pub arrows_in : ArrowMask → List ℕ
arrows_in mask = members mask.words

abbrev pub left_in : ArrowIter → List ℕ
left_in arrows = members arrows.words
