-- Whether two types are the same, and what a type feeds a hash.
use Rattle.std.specs.Prelude.{ℕ, Bool, true, false, ◌&&◌, ◌++◌, eqb}
use Rattle.std.specs.Hash as fed
use Rattle.std.specs.Hash.{HashWrites}
use Rattle.topos_model.specs.declared.ty.Ty.{Ty, Base, One, Omega, Two', Pow', Fun', more_of-Ty as one, end_of-Ty as none}

unfoldable pub same_type : Ty → Ty → Bool
same_type (Base m) (Base n) = eqb m n
same_type One One = true
same_type Omega Omega = true
same_type (Two' _ (one S none) _ (one T none)) (Two' _ (one U none) _ (one V none)) = same_type S U && same_type T V
same_type (Pow' _ (one S none)) (Pow' _ (one T none)) = same_type S T
same_type (Fun' _ (one S none) _ (one T none)) (Fun' _ (one U none) _ (one V none)) = same_type S U && same_type T V
same_type _ _ = false

-- each constructor as a byte, and then its parts
unfoldable pub type_writes : Ty → HashWrites
type_writes (Base n) = fed.u8 0 ++ fed.u32 n
type_writes One = fed.u8 1
type_writes Omega = fed.u8 2
type_writes (Two' _ (one S none) _ (one T none)) = fed.u8 3 ++ type_writes S ++ type_writes T
type_writes (Pow' _ (one T none)) = fed.u8 4 ++ type_writes T
type_writes (Fun' _ (one S none) _ (one T none)) = fed.u8 5 ++ type_writes S ++ type_writes T
