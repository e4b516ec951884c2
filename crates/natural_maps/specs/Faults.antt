-- What a fault of listed data says.
use Rattle.std.specs.Prelude.{◌≡◌, Option, Some}
use Rattle.topos_model.specs.declared.fault.Fault.{Fault}
use Rattle.topos_model.specs.declared.fault.Fault.TheVariants.{NoElement as Unknown, MapNotTotal as Partial, NotNatural as Fails}
use Rattle.topos_model.specs.declared.raw.RawMap.{RawMap}
use Rattle.topos_model.specs.categories.Category.{Category}
use Rattle.topos_model.specs.types.Types.{Presheaf}
use Rattle.topos_model.specs.presheaves.MapFaults.{map_fault}
use Rattle.natural_maps.specs.declared.fault.MapFault.{MapFault}
use Rattle.natural_maps.specs.declared.fault.MapFault.TheVariants.{NoElement, MapNotTotal, NotNatural, NoMemory}

-- the refusal with its instance is the one that a search finds; want of memory says nothing
abbrev pub IsFound : Option Fault → MapFault → Type 0
IsFound found (NoElement c k) = found ≡ Some (Unknown c k)
IsFound found (MapNotTotal c x) = found ≡ Some (Partial c x)
IsFound found (NotNatural f x) = found ≡ Some (Fails f x)
IsFound found NoMemory = Unit {0}

-- the first fault of all
abbrev pub IsFaultOf : Category → Presheaf → Presheaf → RawMap → MapFault → Type 0
IsFaultOf k P Q raw fault = IsFound (map_fault k P Q raw) fault
