use Rattle.std.proofs.Common.{◌++◌, ◌∷◌, [], ℕ, List, sym, ap, ◌∙◌}
use Rattle.presheaf_core.proofs.Tables.{numbers_more}
use Rattle.finite_limits.proofs.all_pairs.numbers.Goals as goal

pub loop-y-preserved : goal.loop-y-preserved
loop-y-preserved c = c.in_ok-push.ensures.ok ∙ ap (λ (row : List ℕ). row ++ c.loop-y.y ∷ []) c.loop-y.invariant ∙ sym (numbers_more c.loop-y.y)
