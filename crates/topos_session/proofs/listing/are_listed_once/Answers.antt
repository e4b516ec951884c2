use Rattle.topos_session.proofs.Listings.{listed_below}
use Rattle.topos_session.proofs.listing.are_listed_once.Goals as goal

pub are_distinct-requires : goal.are_distinct-requires
are_distinct-requires c = rw (c.deref.ensures.value, c.in_ok-arrows.ensures) (listed_below c.args.along.now c.args.number c.requires)
