use Rattle.std.proofs.Common.{[], ◌∷◌, ◌++◌, sym, ap, ◌∙◌}
use Rattle.presheaf_core.proofs.Tables.{numbers_more}
use Rattle.presheaf_core.proofs.rows.numbers_below.Goals as goal

pub loop-x-preserved : goal.loop-x-preserved
loop-x-preserved c = c.in_ok-push.ensures.ok ∙ ap (λ row. row ++ c.loop-x.x ∷ []) c.loop-x.invariant ∙ sym (numbers_more c.loop-x.x)
