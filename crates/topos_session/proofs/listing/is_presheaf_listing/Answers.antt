use Rattle.std.proofs.Common.{◌≡◌, IfOk, sym, ◌∙◌, subst}
use Rattle.topos_session.proofs.Listings.{fitting_arrows, not_sized, not_fitting, listing_if_distinct}
use Rattle.topos_session.proofs.listing.is_presheaf_listing.Goals as goal

pub returns-then-not-are_sizes : goal.returns-then-not-are_sizes
returns-then-not-are_sizes c =
    let e = rw c.as_slice-sizes.ensures at c.are_sizes.ensures in
    not_sized c.args.objects c.args.ends.now c.args.raw.now (sym e ∙ c.if-not-are_sizes.true)

pub returns-then-not-branch : goal.returns-then-not-branch
returns-then-not-branch c =
    let e = rw (c.as_slice-sizes.ensures, c.as_slice-along.ensures) at c.in_ok-all_along_fit.ensures in
    not_fitting c.args.objects c.args.ends.now c.args.raw.now (sym e ∙ c.if-not-branch.true)

pub are_listed_once-requires : goal.are_listed_once-requires
are_listed_once-requires c =
    fitting_arrows c.args.objects c.args.ends.now c.as_slice-sizes.result.now c.as_slice-along.result.now (sym c.in_ok-all_along_fit.ensures ∙ c.if-not-branch.false)

pub returns : goal.returns
returns c =
    let sized = rw c.as_slice-sizes.ensures at c.are_sizes.ensures in
    let fitting = rw (c.as_slice-sizes.ensures, c.as_slice-along.ensures) at c.in_ok-all_along_fit.ensures in
    let distinct = rw c.as_slice-along.ensures at c.are_listed_once.ensures in
    let listing = listing_if_distinct c.args.objects c.args.ends.now c.args.raw.now (sym sized ∙ c.if-not-are_sizes.false) (sym fitting ∙ c.if-not-branch.false) in
    subst (λ b. IfOk c.are_listed_once.result (λ x. x ≡ b)) listing distinct
