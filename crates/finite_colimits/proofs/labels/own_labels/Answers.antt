use Rattle.std.proofs.Common.{[], ◌∷◌, ◌++◌, sym, ap, ◌∙◌}
use Rattle.presheaf_core.proofs.Tables.{numbers_more}
use Rattle.finite_colimits.proofs.labels.own_labels.Goals as goal

pub loop-y-preserved : goal.loop-y-preserved
loop-y-preserved c = c.in-Ok.ensures.items ∙ ap (λ labels. labels ++ c.loop-y.y ∷ []) c.loop-y.invariant ∙ sym (numbers_more c.loop-y.y)
