-- Where a presheaf is a part of a type.
use Rattle.std.proofs.Common.{◌≡◌, ℕ, Bool, true, false, ◌||◌, eqb, List, [], ◌∷◌, refl, ap, ◌∙◌}
use Rattle.std.specs.List.{list_any, flat_map}
use Rattle.std.proofs.lemmas.List.Folds.{list_any-append}
use denote.Hole.Carrier
use Rattle.topos_model.specs.declared.ty.Ty.{Ty, Base, One, Omega, Two, Pow, Fun}
use Rattle.topos_model.specs.declared.ty.Ty.TheBlock.{hidden-the_row-Ty-0}
use Rattle.topos_model.specs.statements.Needs.{parts, is_functor}

abbrev pub occurs : ℕ → Ty → Bool
occurs n T = list_any (is_functor n) (parts T)

last : (b : Bool) → (b || false) ≡ b
last true = refl
last false = refl

pub occurs-Base : (n m : ℕ) → occurs n (Base m) ≡ eqb m n
unfolding parts hidden-the_row-Ty-0 Carrier.hidden
occurs-Base n m = last (eqb m n)

pub occurs-One : (n : ℕ) → occurs n One ≡ false
unfolding parts hidden-the_row-Ty-0 Carrier.hidden
occurs-One n = refl

pub occurs-Omega : (n : ℕ) → occurs n Omega ≡ false
unfolding parts hidden-the_row-Ty-0 Carrier.hidden
occurs-Omega n = refl

pub occurs-Two : (n : ℕ) (S T : Ty) → occurs n (Two S T) ≡ (occurs n S || occurs n T)
unfolding parts hidden-the_row-Ty-0 Carrier.hidden
occurs-Two n S T = list_any-append (is_functor n) (parts S) (parts T)

pub occurs-Pow : (n : ℕ) (T : Ty) → occurs n (Pow T) ≡ occurs n T
unfolding parts hidden-the_row-Ty-0 Carrier.hidden
occurs-Pow n T = refl

pub occurs-Fun : (n : ℕ) (S T : Ty) → occurs n (Fun S T) ≡ (occurs n S || occurs n T)
unfolding parts hidden-the_row-Ty-0 Carrier.hidden
occurs-Fun n S T = list_any-append (is_functor n) (parts S) (parts T)

pub ruleset occurrence_rules = (occurs-Base, occurs-One, occurs-Omega, occurs-Two, occurs-Pow, occurs-Fun)

-- a presheaf occurs in types if it occurs in one of them
pub occurs_among : (n : ℕ) (types : List Ty) → list_any (is_functor n) (flat_map parts types) ≡ list_any (occurs n) types
occurs_among n [] = refl
occurs_among n (T ∷ types) = list_any-append (is_functor n) (parts T) (flat_map parts types) ∙ ap (λ b. occurs n T || b) (occurs_among n types)
