use Rattle.std.proofs.Common.{[], refl}
use Rattle.exponentials.proofs.tests.store_over.Goals as goal

pub need-requires-clause-faithful : goal.need-requires-clause-faithful
need-requires-clause-faithful c = ([], c.in_ok-store.ensures.faithful [])

pub seal_functor-requires-clause-faithful : goal.seal_functor-requires-clause-faithful
seal_functor-requires-clause-faithful c = ([], refl, c.need.ensures.faithful [] (c.in_ok-store.ensures.faithful []))

pub returns-clause-faithful : goal.returns-clause-faithful
returns-clause-faithful c = c.in_ok-seal_functor.ensures.faithful [] refl (c.need.ensures.faithful [] (c.in_ok-store.ensures.faithful []))
