-- Elements and restriction, a form of type at a time.
use Rattle.std.proofs.Common.{◌≡◌, ℕ, List, [], ◌∷◌, refl}
use denote.Hole.Carrier
use Rattle.topos_model.specs.declared.ty.Ty.{Ty, Base, One, Omega, Two, Pow, Fun}
use Rattle.topos_model.specs.declared.ty.Ty.TheBlock.{hidden-the_row-Ty-0}
use Rattle.topos_model.specs.declared.value.Val.{Val, Star}
use Rattle.topos_model.specs.topologies.Cover.{Site}
use Rattle.topos_model.specs.types.Types.{Presheaf, functor, elements, restr, base_elements, base_along, omega_elements, omega_along, two_elements, two_along, pow_elements, pow_along, fun_elements, fun_along}

module _ (s : Site) (functors : List Presheaf) where
  pub elements-Base : (n : ℕ) (c : ℕ) → elements s functors (Base n) c ≡ base_elements (functor s functors n) c
  unfolding elements hidden-the_row-Ty-0 Carrier.hidden
  elements-Base n c = refl

  pub elements-One : (c : ℕ) → elements s functors One c ≡ Star ∷ []
  unfolding elements hidden-the_row-Ty-0 Carrier.hidden
  elements-One c = refl

  pub elements-Omega : (c : ℕ) → elements s functors Omega c ≡ omega_elements s c
  unfolding elements hidden-the_row-Ty-0 Carrier.hidden
  elements-Omega c = refl

  pub elements-Two : (S T : Ty) (c : ℕ) → elements s functors (Two S T) c ≡ two_elements (elements s functors S) (elements s functors T) c
  unfolding elements hidden-the_row-Ty-0 Carrier.hidden
  elements-Two S T c = refl

  pub elements-Pow : (T : Ty) (c : ℕ) → elements s functors (Pow T) c ≡ pow_elements s (elements s functors T) (restr s functors T) c
  unfolding elements hidden-the_row-Ty-0 Carrier.hidden
  elements-Pow T c = refl

  pub elements-Fun : (S T : Ty) (c : ℕ) → elements s functors (Fun S T) c ≡ fun_elements s (elements s functors S) (restr s functors S) (elements s functors T) (restr s functors T) c
  unfolding elements hidden-the_row-Ty-0 Carrier.hidden
  elements-Fun S T c = refl

  pub restr-Base : (n : ℕ) (f : ℕ) (v : Val) → restr s functors (Base n) f v ≡ base_along (functor s functors n) f v
  unfolding elements hidden-the_row-Ty-0 Carrier.hidden
  restr-Base n f v = refl

  pub restr-One : (f : ℕ) (v : Val) → restr s functors One f v ≡ Star
  unfolding elements hidden-the_row-Ty-0 Carrier.hidden
  restr-One f v = refl

  pub restr-Omega : (f : ℕ) (v : Val) → restr s functors Omega f v ≡ omega_along s f v
  unfolding elements hidden-the_row-Ty-0 Carrier.hidden
  restr-Omega f v = refl

  pub restr-Two : (S T : Ty) (f : ℕ) (v : Val) → restr s functors (Two S T) f v ≡ two_along (restr s functors S) (restr s functors T) f v
  unfolding elements hidden-the_row-Ty-0 Carrier.hidden
  restr-Two S T f v = refl

  pub restr-Pow : (T : Ty) (f : ℕ) (v : Val) → restr s functors (Pow T) f v ≡ pow_along s (elements s functors T) f v
  unfolding elements hidden-the_row-Ty-0 Carrier.hidden
  restr-Pow T f v = refl

  pub restr-Fun : (S T : Ty) (f : ℕ) (v : Val) → restr s functors (Fun S T) f v ≡ fun_along s (elements s functors S) f v
  unfolding elements hidden-the_row-Ty-0 Carrier.hidden
  restr-Fun S T f v = refl

  pub ruleset elements_rules = (elements-Base, elements-One, elements-Omega, elements-Two, elements-Pow, elements-Fun)

  pub ruleset restriction_rules = (restr-Base, restr-One, restr-Omega, restr-Two, restr-Pow, restr-Fun)
