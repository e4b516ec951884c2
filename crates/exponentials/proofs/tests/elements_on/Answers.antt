use Rattle.std.proofs.Common.{[], ◌∷◌}
use Rattle.exponentials.proofs.tests.elements_on.Goals as goal

pub need-requires-clause-faithful : goal.need-requires-clause-faithful
need-requires-clause-faithful c = (c.args.functor.now ∷ [], c.in_ok-store.ensures.faithful)

pub listed-requires-clause-faithful : goal.listed-requires-clause-faithful
listed-requires-clause-faithful c = (c.args.functor.now ∷ [], c.need.ensures.faithful (c.args.functor.now ∷ []) c.in_ok-store.ensures.faithful)
