use Rattle.std.proofs.Common.{refl}
use Rattle.truth_tables.proofs.Rows.{row-more}
use Rattle.internal_interp.proofs.scopes.single_tuples.Goals as goal

pub loop-c-preserved : goal.loop-c-preserved
loop-c-preserved c = row-more (λ c. 1) c.loop-c._c c.loop-c.sizes _ 1 c.loop-c.invariant c.in_ok-push.ensures.ok refl
