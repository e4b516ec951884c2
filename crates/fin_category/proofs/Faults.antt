-- The first fault of all, from the first of its kind.
use Rattle.std.proofs.Common.{◌≡◌, Option, None, ap, ◌∙◌}
use Rattle.finite_lists.specs.First.{or_else}
use Rattle.topos_model.specs.declared.fault.Fault.{Fault}
use Rattle.topos_model.specs.declared.raw.RawCat.{RawCat}
use Rattle.topos_model.specs.categories.Filling.{filled_category}
use Rattle.topos_model.specs.categories.CategoryFaults.{listing_fault, missing_composite_fault, category_fault}
use Rattle.topos_model.specs.Faults.{associativity_fault}
use Rattle.fin_category.specs.declared.fault.CatFault.{CatFault}
use Rattle.fin_category.specs.declared.fault.CatFault.TheVariants.{CompositeMissing, CompositeTwice, CompositeEnds, NotAssociative, NoMemory}
use Rattle.fin_category.specs.Faults.{IsFound, IsListingFault, IsMissingFault, IsFaultOf}

found_first : (o later : Option Fault) (fault : CatFault) → IsFound o fault → IsFound (or_else o later) fault
found_first o later (CompositeMissing g f) e = ap (λ o. or_else o later) e
found_first o later (CompositeTwice g f) e = ap (λ o. or_else o later) e
found_first o later (CompositeEnds g f h) e = ap (λ o. or_else o later) e
found_first o later (NotAssociative h g f) e = ap (λ o. or_else o later) e
found_first o later NoMemory e = tt

found_later : (o later : Option Fault) (fault : CatFault) → o ≡ None → IsFound later fault → IsFound (or_else o later) fault
found_later o later (CompositeMissing g f) none e = ap (λ o. or_else o later) none ∙ e
found_later o later (CompositeTwice g f) none e = ap (λ o. or_else o later) none ∙ e
found_later o later (CompositeEnds g f h) none e = ap (λ o. or_else o later) none ∙ e
found_later o later (NotAssociative h g f) none e = ap (λ o. or_else o later) none ∙ e
found_later o later NoMemory none e = tt

pub listing_found : (raw : RawCat) (fault : CatFault) → IsListingFault raw fault → IsFaultOf raw fault
unfolding category_fault
listing_found raw fault e = found_first (listing_fault raw) _ fault e

pub missing_found : (raw : RawCat) (fault : CatFault) → listing_fault raw ≡ None → IsMissingFault raw fault → IsFaultOf raw fault
unfolding category_fault
missing_found raw fault none e = found_later (listing_fault raw) _ fault none (found_first (missing_composite_fault raw) _ fault e)

-- the rest is associativity
pub associativity_decides : (raw : RawCat) → listing_fault raw ≡ None → missing_composite_fault raw ≡ None → category_fault raw ≡ associativity_fault (filled_category raw)
unfolding category_fault
associativity_decides raw listing missing =
    ap (λ o. or_else o (or_else (missing_composite_fault raw) (associativity_fault (filled_category raw)))) listing
    ∙ ap (λ o. or_else o (associativity_fault (filled_category raw))) missing
