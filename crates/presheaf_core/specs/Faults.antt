-- What a fault of listed data says.
use Rattle.std.specs.Prelude.{◌≡◌, Option, Some}
use Rattle.topos_model.specs.declared.fault.Fault.{Fault}
use Rattle.topos_model.specs.declared.fault.Fault.TheVariants.{RestrictionMissing as Missing, NotTotal as Partial, NotFunctorial as Fails}
use Rattle.topos_model.specs.declared.raw.RawFunctor.{RawFunctor}
use Rattle.topos_model.specs.categories.Category.{Category}
use Rattle.topos_model.specs.presheaves.PresheafFaults.{presheaf_fault}
use Rattle.presheaf_core.specs.declared.fault.FunctorFault.{FunctorFault}
use Rattle.presheaf_core.specs.declared.fault.FunctorFault.TheVariants.{RestrictionMissing, NotTotal, NotFunctorial, NoMemory}

-- the refusal with its instance is the one that a search finds; want of memory says nothing
abbrev pub IsFound : Option Fault → FunctorFault → Type 0
IsFound found (RestrictionMissing f) = found ≡ Some (Missing f)
IsFound found (NotTotal f x) = found ≡ Some (Partial f x)
IsFound found (NotFunctorial g f x) = found ≡ Some (Fails g f x)
IsFound found NoMemory = Unit {0}

-- the first fault of all
abbrev pub IsFaultOf : Category → RawFunctor → FunctorFault → Type 0
IsFaultOf k raw fault = IsFound (presheaf_fault k raw) fault
