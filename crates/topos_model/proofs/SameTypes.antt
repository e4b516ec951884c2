-- An answer that decides equality of types is the test, and what a type feeds a hash, a form of type at a time.
use Rattle.std.proofs.Common.{◌≡◌, ℕ, Bool, true, false, ◌++◌, List, refl, ap, ◌∙◌, sym}
use Rattle.std.specs.List.{fold}
use Rattle.std.proofs.lemmas.List.Sums.{fold-append}
use Rattle.std.specs.Prelude.{Decides}
use Rattle.std.specs.Cmp.{both_ways}
use Rattle.std.specs.Hash as fed
use denote.Hole.Carrier
use Rattle.topos_model.specs.declared.ty.Ty.{Ty, Base, One, Omega, Two, Pow, Fun}
use Rattle.topos_model.specs.declared.ty.Ty.TheBlock.{hidden-the_row-Ty-0}
use Rattle.topos_model.specs.types.SameType.{same_type, type_writes}
use Rattle.topos_model.specs.types.SameTypeLaws.{same_types_are_equal, equal_types_are_same}

pub decided : (r : Bool) (S T : Ty) → Decides r (S ≡ T) → r ≡ same_type S T
decided r S T d = both_ways r (same_type S T) (λ h. equal_types_are_same S T (d.0 h)) (λ h. d.1 (same_types_are_equal S T h))

pub type_writes-Base : (n : ℕ) → type_writes (Base n) ≡ fed.u8 0 ++ fed.u32 n
unfolding type_writes hidden-the_row-Ty-0 Carrier.hidden
type_writes-Base n = refl

pub type_writes-One : type_writes One ≡ fed.u8 1
unfolding type_writes hidden-the_row-Ty-0 Carrier.hidden
type_writes-One = refl

pub type_writes-Omega : type_writes Omega ≡ fed.u8 2
unfolding type_writes hidden-the_row-Ty-0 Carrier.hidden
type_writes-Omega = refl

pub type_writes-Two : (S T : Ty) → type_writes (Two S T) ≡ fed.u8 3 ++ type_writes S ++ type_writes T
unfolding type_writes hidden-the_row-Ty-0 Carrier.hidden
type_writes-Two S T = refl

pub type_writes-Pow : (T : Ty) → type_writes (Pow T) ≡ fed.u8 4 ++ type_writes T
unfolding type_writes hidden-the_row-Ty-0 Carrier.hidden
type_writes-Pow T = refl

pub type_writes-Fun : (S T : Ty) → type_writes (Fun S T) ≡ fed.u8 5 ++ type_writes S ++ type_writes T
unfolding type_writes hidden-the_row-Ty-0 Carrier.hidden
type_writes-Fun S T = refl

pub written-Two : {A : Type 0} (write : A → List ℕ → A) (a : A) (S T : Ty) → fold write a (type_writes (Two S T)) ≡ fold write (fold write (fold write a (fed.u8 3)) (type_writes S)) (type_writes T)
written-Two write a S T = ap (fold write a) (type_writes-Two S T) ∙ fold-append write a (fed.u8 3) (type_writes S ++ type_writes T) ∙ fold-append write _ (type_writes S) (type_writes T)

pub written-Fun : {A : Type 0} (write : A → List ℕ → A) (a : A) (S T : Ty) → fold write a (type_writes (Fun S T)) ≡ fold write (fold write (fold write a (fed.u8 5)) (type_writes S)) (type_writes T)
written-Fun write a S T = ap (fold write a) (type_writes-Fun S T) ∙ fold-append write a (fed.u8 5) (type_writes S ++ type_writes T) ∙ fold-append write _ (type_writes S) (type_writes T)

pub ruleset type_writes_rules = (type_writes-Base, type_writes-One, type_writes-Omega, written-Two, type_writes-Pow, written-Fun)
