-- What a function that resolves names answers where it fails: the fault that is found, or want of memory.
use Rattle.std.specs.Prelude.{◌≡◌, Option, Some, Err}
use Rattle.topos_model.specs.declared.fault.Fault.{Fault}
use Rattle.topos_text.specs.Names.{Checked}
use Rattle.topos_names.specs.declared.stop.NameStop.{NameStop}
use Rattle.topos_names.specs.declared.stop.NameStop.TheVariants as stop

-- where it is a fault, it is the one that is found in place of a value
abbrev pub Stops : {A : Type 0} → Checked A → NameStop → Type 0
Stops found s = (fault : Fault) → s ≡ stop.Fault fault → found ≡ Err fault

-- where it is a fault, it is this one
abbrev pub Blames : Option Fault → NameStop → Type 0
Blames found s = (fault : Fault) → s ≡ stop.Fault fault → found ≡ Some fault

-- where it is a fault, it is the one that is named
abbrev pub IsFault : Fault → NameStop → Type 0
IsFault named s = (fault : Fault) → s ≡ stop.Fault fault → fault ≡ named
