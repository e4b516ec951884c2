use Rattle.std.proofs.Common.{arith}
use Rattle.topos_session.proofs.DocumentRanges.{ranges}
use Rattle.topos_session.proofs.session.Session.next.Goals as goal

pub overflow_cast-result : goal.overflow_cast-result
overflow_cast-result c = let range = ranges c.self.inside.doc c.self.invariant.range in omega arith

pub overflow_add-result : goal.overflow_add-result
overflow_add-result c = let range = ranges c.self.inside.doc c.self.invariant.range in omega arith

pub overflow_add-result-2 : goal.overflow_add-result-2
overflow_add-result-2 c = let range = ranges c.self.inside.doc c.self.invariant.range in omega arith
