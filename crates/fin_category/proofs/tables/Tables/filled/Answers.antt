use Rattle.std.proofs.Common.{arith}
use Rattle.std.proofs.lemmas.Result.{err_from_is_err_and}
use Rattle.fin_category.proofs.AllEnds.{length-all_ends}
use Rattle.fin_category.proofs.Faults.{listing_found, missing_found}
use Rattle.fin_category.proofs.FilledTables.{category_of_filled, tables_filled}
use Rattle.fin_category.proofs.tables.Tables.filled.Goals as goal

pub returns-in_err-listing-clause-fault : goal.returns-in_err-listing-clause-fault
returns-in_err-listing-clause-fault c =
    let p = err_from_is_err_and c.from_residual.result c.from_residual.ensures.1 in
    rw (p.1, p.2) (listing_found c.args.raw.now _ c.in_err-listing.ensures.fault)

pub filled_square-requires-clause-few : goal.filled_square-requires-clause-few
filled_square-requires-clause-few c = omega (arith, c.requires.arrows, length-all_ends c.args.raw.now)

pub returns-in_err-composites-clause-fault : goal.returns-in_err-composites-clause-fault
returns-in_err-composites-clause-fault c =
    let p = err_from_is_err_and c.from_residual-in_err-composites.result c.from_residual-in_err-composites.ensures.1 in
    rw (p.1, p.2) (missing_found c.args.raw.now _ c.in_ok-listing.ensures.faultless c.in_err-composites.ensures.fault)

pub invariant_of-result : goal.invariant_of-result
invariant_of-result c =
    tables_filled c.args.raw.now c.in_ok-listing.listing c.in_ok-composites.composites.items c.in_ok-listing.ensures.listing c.in_ok-composites.ensures.composites
    c.requires.objects (omega (arith, c.requires.arrows, length-all_ends c.args.raw.now)) c.requires.within c.in_ok-listing.ensures.faultless c.in_ok-composites.ensures.faultless

pub returns-clause-category : goal.returns-clause-category
returns-clause-category c = category_of_filled c.args.raw.now c.in_ok-listing.listing c.in_ok-composites.composites.items c.in_ok-listing.ensures.listing c.in_ok-composites.ensures.composites
