use Rattle.std.proofs.Common.{[], ◌∷◌}
use Rattle.exponentials.proofs.tests.cells_on.Goals as goal

pub need-requires-clause-faithful : goal.need-requires-clause-faithful
need-requires-clause-faithful c = (c.args.functor.now ∷ [], c.in_ok-store.ensures.faithful)
