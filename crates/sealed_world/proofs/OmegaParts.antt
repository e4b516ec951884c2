-- Where the type of truth values is a part of a type.
use Rattle.std.proofs.Common.{◌≡◌, ℕ, Bool, true, false, ◌||◌, refl, sym, subst, ◌∙◌}
use Rattle.std.specs.List.{list_any}
use Rattle.std.proofs.lemmas.Bool.{false≢true}
use Rattle.std.proofs.lemmas.List.Folds.{list_any-append}
use denote.Hole.Carrier
use Rattle.topos_model.specs.declared.ty.Ty.{Ty, Base, One, Omega, Two, Pow, Fun}
use Rattle.topos_model.specs.declared.ty.Ty.TheBlock.{hidden-the_row-Ty-0}
use Rattle.finite_lists.specs.Members.{In}
use Rattle.finite_lists.proofs.Lists.{some_any, any_some}
use Rattle.topos_model.specs.types.SameType.{same_type}
use Rattle.topos_model.specs.types.SameTypeLaws.{same_types_are_equal, same_as_itself}
use Rattle.topos_model.specs.statements.Needs.{parts}
use Rattle.topos_model.specs.statements.Cells.{is_named}

abbrev pub mentions : Ty → Bool
mentions T = list_any (same_type Omega) (parts T)

pub mentions-Base : (n : ℕ) → mentions (Base n) ≡ false
unfolding parts same_type hidden-the_row-Ty-0 Carrier.hidden
mentions-Base n = refl

pub mentions-One : mentions One ≡ false
unfolding parts same_type hidden-the_row-Ty-0 Carrier.hidden
mentions-One = refl

pub mentions-Omega : mentions Omega ≡ true
unfolding parts same_type hidden-the_row-Ty-0 Carrier.hidden
mentions-Omega = refl

pub mentions-Two : (S T : Ty) → mentions (Two S T) ≡ (mentions S || mentions T)
unfolding parts same_type hidden-the_row-Ty-0 Carrier.hidden
mentions-Two S T = list_any-append (same_type Omega) (parts S) (parts T)

pub mentions-Pow : (T : Ty) → mentions (Pow T) ≡ mentions T
unfolding parts same_type hidden-the_row-Ty-0 Carrier.hidden
mentions-Pow T = refl

pub mentions-Fun : (S T : Ty) → mentions (Fun S T) ≡ (mentions S || mentions T)
unfolding parts same_type hidden-the_row-Ty-0 Carrier.hidden
mentions-Fun S T = list_any-append (same_type Omega) (parts S) (parts T)

pub ruleset mention_rules = (mentions-Base, mentions-One, mentions-Omega, mentions-Two, mentions-Pow, mentions-Fun)

pub mentioned_In : (T : Ty) → mentions T ≡ true → In (parts T) Omega
mentioned_In T e = let m = any_some (same_type Omega) (parts T) e in subst (In (parts T)) (sym (same_types_are_equal Omega m.0 m.2)) m.1

pub In_mentioned : (T : Ty) → mentions T ≡ false → In (parts T) Omega → ⊥
In_mentioned T e i = false≢true (sym e ∙ some_any (same_type Omega) (parts T) Omega i (same_as_itself Omega))

pub omega_unnamed : is_named Omega ≡ false
unfolding is_named hidden-the_row-Ty-0 Carrier.hidden
omega_unnamed = refl
