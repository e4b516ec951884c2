-- What a type names, a form at a time.
use Rattle.std.proofs.Common.{◌≡◌, ℕ, true, false, refl}
use denote.Hole.Carrier
use Rattle.topos_model.specs.declared.ty.Ty.{Ty, Base, One, Omega, Two, Pow, Fun}
use Rattle.topos_model.specs.declared.ty.Ty.TheBlock.{hidden-the_row-Ty-0}
use Rattle.topos_model.specs.statements.Needs.{named}
use Rattle.topos_model.specs.statements.Cells.{is_named}

pub named-Base : (m : ℕ) → named (Base m) ≡ m
unfolding named hidden-the_row-Ty-0 Carrier.hidden
named-Base m = refl

pub named-One : named One ≡ 0
unfolding named hidden-the_row-Ty-0 Carrier.hidden
named-One = refl

pub named-Omega : named Omega ≡ 0
unfolding named hidden-the_row-Ty-0 Carrier.hidden
named-Omega = refl

pub named-Two : (S T : Ty) → named (Two S T) ≡ 0
unfolding named hidden-the_row-Ty-0 Carrier.hidden
named-Two S T = refl

pub named-Pow : (T : Ty) → named (Pow T) ≡ 0
unfolding named hidden-the_row-Ty-0 Carrier.hidden
named-Pow T = refl

pub named-Fun : (S T : Ty) → named (Fun S T) ≡ 0
unfolding named hidden-the_row-Ty-0 Carrier.hidden
named-Fun S T = refl

pub ruleset name_rules = (named-Base, named-One, named-Omega, named-Two, named-Pow, named-Fun)

-- whether a type names a functor
pub is_named-Base : (m : ℕ) → is_named (Base m) ≡ true
unfolding is_named hidden-the_row-Ty-0 Carrier.hidden
is_named-Base m = refl

pub is_named-One : is_named One ≡ false
unfolding is_named hidden-the_row-Ty-0 Carrier.hidden
is_named-One = refl

pub is_named-Omega : is_named Omega ≡ false
unfolding is_named hidden-the_row-Ty-0 Carrier.hidden
is_named-Omega = refl

pub is_named-Two : (S T : Ty) → is_named (Two S T) ≡ false
unfolding is_named hidden-the_row-Ty-0 Carrier.hidden
is_named-Two S T = refl

pub is_named-Pow : (T : Ty) → is_named (Pow T) ≡ false
unfolding is_named hidden-the_row-Ty-0 Carrier.hidden
is_named-Pow T = refl

pub is_named-Fun : (S T : Ty) → is_named (Fun S T) ≡ false
unfolding is_named hidden-the_row-Ty-0 Carrier.hidden
is_named-Fun S T = refl

pub ruleset named_rules = (is_named-Base, is_named-One, is_named-Omega, is_named-Two, is_named-Pow, is_named-Fun)
