-- What a fault of listed data says.
use Rattle.std.specs.Prelude.{◌≡◌, Option, Some}
use Rattle.topos_model.specs.declared.fault.Fault.{Fault}
use Rattle.topos_model.specs.declared.fault.Fault.TheVariants.{CompositeMissing as Missing, CompositeTwice as Twice, CompositeEnds as Ends, NotAssociative as Fails}
use Rattle.topos_model.specs.declared.raw.RawCat.{RawCat}
use Rattle.topos_model.specs.categories.CategoryFaults.{listing_fault, missing_composite_fault, category_fault}
use Rattle.fin_category.specs.declared.fault.CatFault.{CatFault}
use Rattle.fin_category.specs.declared.fault.CatFault.TheVariants.{CompositeMissing, CompositeTwice, CompositeEnds, NotAssociative, NoMemory}

-- the refusal with its instance is the one that a search finds; want of memory says nothing
abbrev pub IsFound : Option Fault → CatFault → Type 0
IsFound found (CompositeMissing g f) = found ≡ Some (Missing g f)
IsFound found (CompositeTwice g f) = found ≡ Some (Twice g f)
IsFound found (CompositeEnds g f h) = found ≡ Some (Ends g f h)
IsFound found (NotAssociative h g f) = found ≡ Some (Fails h g f)
IsFound found NoMemory = Unit {0}

-- the first fault of the listed composites
abbrev pub IsListingFault : RawCat → CatFault → Type 0
IsListingFault raw fault = IsFound (listing_fault raw) fault

-- the first pair that meets and has no composite
abbrev pub IsMissingFault : RawCat → CatFault → Type 0
IsMissingFault raw fault = IsFound (missing_composite_fault raw) fault

-- the first fault of all
abbrev pub IsFaultOf : RawCat → CatFault → Type 0
IsFaultOf raw fault = IsFound (category_fault raw) fault
