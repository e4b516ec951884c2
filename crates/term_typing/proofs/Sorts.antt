-- What typing goes on with where a type is one of pairs, of functions or of sets, and where it is none.
use Rattle.std.proofs.Common.{◌≡◌, refl, sym, ◌∙◌}
use Rattle.std.specs.Prelude.{Err}
use Rattle.topos_model.specs.declared.ty.Ty.{Ty, out-Ty, roll-out-Ty, Two, Pow, Fun}
use Rattle.topos_model.specs.declared.ty.Ty.TheOpen.{Ty-F, Two as IsTwo, Pow as IsPow, Fun as IsFun}
use Rattle.topos_model.specs.declared.ty.Ty.TheViews.{roll-Ty}
use Rattle.topos_model.specs.declared.ty.Ty.TheVariants.{rolls-Two, rolls-Pow, rolls-Fun}
use Rattle.topos_model.specs.declared.ty.Ty.TheBlock.{shown-the_row-Ty-0}
use denote.Hole.Carrier
use Rattle.topos_model.specs.declared.fault.Fault.TheVariants.{NotAFunction, NotAPower, NotAPair}
use Rattle.topos_model.specs.formulas.Typing.{Typing, function, power, pair}

pub pair_two : (S U : Ty) (next : Ty → Ty → Typing) → pair (Two S U) next ≡ next S U
unfolding out-Ty Carrier.out shown-the_row-Ty-0 Carrier.shown Carrier.hidden
pair_two S U next = refl

pub power_pow : (S : Ty) (next : Ty → Typing) → power (Pow S) next ≡ next S
unfolding out-Ty Carrier.out shown-the_row-Ty-0 Carrier.shown Carrier.hidden
power_pow S next = refl

pub function_fun : (S U : Ty) (next : Ty → Ty → Typing) → function (Fun S U) next ≡ next S U
unfolding out-Ty Carrier.out shown-the_row-Ty-0 Carrier.shown Carrier.hidden
function_fun S U next = refl

pub pair_other : (T : Ty) (next : Ty → Ty → Typing) → ((S U : Ty) → T ≡ Two S U → ⊥) → pair T next ≡ Err (NotAPair T)
unfolding out-Ty
pair_other T next h = at (out-Ty T) (roll-out-Ty T)
  where
    at : (d : Ty-F Ty) → roll-Ty d ≡ T → ◌≡◌ {A = Typing} (elim d [ IsTwo S U ↦ next S U | _ ↦ Err (NotAPair T) ]) (Err (NotAPair T))
    at (IsTwo S U) e = absurd (h S U (sym e ∙ rolls-Two S U))
    at _ e = refl

pub power_other : (T : Ty) (next : Ty → Typing) → ((S : Ty) → T ≡ Pow S → ⊥) → power T next ≡ Err (NotAPower T)
unfolding out-Ty
power_other T next h = at (out-Ty T) (roll-out-Ty T)
  where
    at : (d : Ty-F Ty) → roll-Ty d ≡ T → ◌≡◌ {A = Typing} (elim d [ IsPow S ↦ next S | _ ↦ Err (NotAPower T) ]) (Err (NotAPower T))
    at (IsPow S) e = absurd (h S (sym e ∙ rolls-Pow S))
    at _ e = refl

pub function_other : (T : Ty) (next : Ty → Ty → Typing) → ((S U : Ty) → T ≡ Fun S U → ⊥) → function T next ≡ Err (NotAFunction T)
unfolding out-Ty
function_other T next h = at (out-Ty T) (roll-out-Ty T)
  where
    at : (d : Ty-F Ty) → roll-Ty d ≡ T → ◌≡◌ {A = Typing} (elim d [ IsFun S U ↦ next S U | _ ↦ Err (NotAFunction T) ]) (Err (NotAFunction T))
    at (IsFun S U) e = absurd (h S U (sym e ∙ rolls-Fun S U))
    at _ e = refl
