use Rattle.std.proofs.Common.{◌≡◌, IfOk, arith, sym, ◌∙◌, subst}
use Rattle.topos_session.proofs.Listings.{from_range, fits_if_distinct}
use Rattle.topos_session.proofs.listing.along_fits.Goals as goal

pub are_entered_once-requires : goal.are_entered_once-requires
are_entered_once-requires c =
    from_range c.as_slice-entries.result.now c.size_at-size.result c.size_at.result (sym c.entries_fit.ensures ∙ c.if-not-entries_fit.false)

pub returns : goal.returns
returns c =
    let fit = rw (c.as_slice-entries.ensures, c.size_at-size.ensures, c.size_at.ensures) at (sym c.entries_fit.ensures ∙ c.if-not-entries_fit.false) in
    let e = fits_if_distinct c.args.objects c.args.ends.now c.args.sizes.now c.args.along.now (omega arith) (omega arith) fit in
    let h = rw c.as_slice-entries.ensures at c.are_entered_once.ensures in
    subst (λ b. IfOk c.are_entered_once.result (λ x. x ≡ b)) e h
