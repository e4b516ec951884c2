use Rattle.topos_session.proofs.Listings.{entered_below}
use Rattle.topos_session.proofs.listing.are_entered_once.Goals as goal

pub are_distinct-requires : goal.are_distinct-requires
are_distinct-requires c = rw (c.deref.ensures.value, c.in_ok-elements.ensures) (entered_below c.args.entries.now c.args.size c.requires)
