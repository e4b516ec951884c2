use Rattle.std.proofs.Common.{◌≡◌, drop, []}
use Rattle.fin_category.specs.Masks.{all_added}
use Rattle.fin_category.specs.ArrowSets.{arrows_in}
use Rattle.fin_category.proofs.category.Cat.into.Given as goal

-- what is left gives the whole
abbrev pub invariant-loop-f : goal.invariant-loop-f
invariant-loop-f l = all_added (arrows_in l.mask) (drop l.f-index l.f-items) ≡ all_added [] l.f-items
