use Rattle.topos_session.proofs.SeenEntries.{AreSeen}
use Rattle.topos_session.proofs.listing.is_map_listing.Given as goal

abbrev pub invariant-loop-i : goal.invariant-loop-i
invariant-loop-i l = AreSeen l.objects l.entries l.i l.seen
