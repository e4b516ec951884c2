-- What the answers of typing say.
use Rattle.std.specs.Prelude.{◌≡◌, Result, Ok, Err}
use Rattle.topos_model.specs.declared.ty.Ty.{Ty, Omega}
use Rattle.topos_model.specs.declared.fault.Fault.TheVariants as fault
use Rattle.topos_model.specs.formulas.Typing.{Typing, then, formula}
use Rattle.term_typing.specs.declared.count.Counted.{Counted}
use Rattle.term_typing.specs.declared.fault.TypeFault.{TypeFault}
use Rattle.term_typing.specs.declared.fault.TypeFault.TheVariants.{Expected, NotAFunction, NotAPower, NotAPair, NoMemory}

-- the first fault of the types; want of memory says nothing
abbrev pub IsFaultOf : Typing → TypeFault → Type 0
IsFaultOf typing (Expected S T) = typing ≡ Err (fault.Expected S T)
IsFaultOf typing (NotAFunction T) = typing ≡ Err (fault.NotAFunction T)
IsFaultOf typing (NotAPower T) = typing ≡ Err (fault.NotAPower T)
IsFaultOf typing (NotAPair T) = typing ≡ Err (fault.NotAPair T)
IsFaultOf typing NoMemory = Unit {0}

-- the type that is found, or the first fault
abbrev pub Infers : Typing → Result Ty TypeFault → Type 0
Infers typing (Ok T) = typing ≡ Ok T
Infers typing (Err e) = IsFaultOf typing e

-- the types of two terms, or the first fault of the two
abbrev pub InfersBoth : Typing → Typing → Result (Ty × Ty) TypeFault → Type 0
InfersBoth left right (Ok both) = (left ≡ Ok both.0) × (right ≡ Ok both.1)
InfersBoth left right (Err e) = IsFaultOf (then left (λ _. right)) e

-- the type of a formula that is made of two
abbrev pub both_formulas : Typing → Typing → Typing
both_formulas left right = formula left (formula right (Ok Omega))

-- the type alone, where it is found with the types that are counted
abbrev pub type_of : Result Counted TypeFault → Result Ty TypeFault
type_of (Ok counted) = Ok counted.ty
type_of (Err fault) = Err fault
