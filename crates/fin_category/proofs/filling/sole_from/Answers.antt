use Rattle.std.proofs.Common.{get_or}
use Rattle.finite_lists.proofs.Lists.{In_at}
use Rattle.fin_category.proofs.filling.sole_from.Goals as goal

pub bounds-ends-h : goal.bounds-ends-h
bounds-ends-h c = c.requires (get_or c.args.row.now c.loop-h.h-index 0) (In_at c.args.row.now c.loop-h.h-index 0 c.loop-h-test.true)
