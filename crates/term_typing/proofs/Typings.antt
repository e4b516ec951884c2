-- Typing goes on from the type of a part, and a fault of a part is one of the whole.
use Rattle.std.proofs.Common.{◌≡◌, refl, ap, ◌∙◌}
use Rattle.std.specs.Prelude.{Result, Ok, Err}
use Rattle.topos_model.specs.declared.ty.Ty.{Ty}
use Rattle.topos_model.specs.formulas.Typing.{Typing, then}
use Rattle.term_typing.specs.Inferring.{IsFaultOf, Infers}
use Rattle.term_typing.specs.declared.fault.TypeFault.{TypeFault}
use Rattle.term_typing.specs.declared.fault.TypeFault.TheVariants.{Expected, NotAFunction, NotAPower, NotAPair, NoMemory}

-- a fault of a part
pub part_fails : (typing : Typing) (next : Ty → Typing) (e : TypeFault) → IsFaultOf typing e → IsFaultOf (then typing next) e
part_fails typing next (Expected S T) h = rw h refl
part_fails typing next (NotAFunction T) h = rw h refl
part_fails typing next (NotAPower T) h = rw h refl
part_fails typing next (NotAPair T) h = rw h refl
part_fails typing next NoMemory h = tt

-- the type of a part
pub part_typed : (typing : Typing) (next : Ty → Typing) (T : Ty) → typing ≡ Ok T → then typing next ≡ next T
part_typed typing next T h = ap (λ t. then t next) h

-- the same fault
pub fault_of_same : (typing other : Typing) (e : TypeFault) → typing ≡ other → IsFaultOf other e → IsFaultOf typing e
fault_of_same typing other (Expected S T) same h = same ∙ h
fault_of_same typing other (NotAFunction T) same h = same ∙ h
fault_of_same typing other (NotAPower T) same h = same ∙ h
fault_of_same typing other (NotAPair T) same h = same ∙ h
fault_of_same typing other NoMemory same h = tt

-- the same answer
pub infers_same : (typing other : Typing) (r : Result Ty TypeFault) → typing ≡ other → Infers other r → Infers typing r
infers_same typing other (Ok T) same h = same ∙ h
infers_same typing other (Err e) same h = fault_of_same typing other e same h
