use Rattle.std.proofs.Common.{[]}
use Rattle.exponentials.proofs.tests.operated.Goals as goal

pub need-requires-clause-faithful : goal.need-requires-clause-faithful
need-requires-clause-faithful c = ([], c.in_ok-store.ensures.faithful [])
