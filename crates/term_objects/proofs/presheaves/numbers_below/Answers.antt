use Rattle.std.proofs.Common.{[], ◌∷◌, ◌++◌, sym, ap, ◌∙◌}
use Rattle.term_objects.proofs.NumberTables.{range_more}
use Rattle.term_objects.proofs.presheaves.numbers_below.Goals as goal

pub loop-x-preserved : goal.loop-x-preserved
loop-x-preserved c = c.in_ok-push.ensures.ok ∙ ap (λ row. row ++ c.loop-x.x ∷ []) c.loop-x.invariant ∙ sym (range_more c.loop-x.x)
