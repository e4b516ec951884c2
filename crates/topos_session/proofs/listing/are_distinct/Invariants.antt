use Rattle.topos_session.proofs.DistinctNumbers.{AreNew}
use Rattle.topos_session.proofs.listing.are_distinct.Given as goal

abbrev pub invariant-loop-i : goal.invariant-loop-i
invariant-loop-i l = AreNew l.numbers l.bound l.i l.seen
