-- What a term comes to, from its parts.
use Rattle.std.proofs.Common.{◌≡◌, ℕ, List, ◌∷◌, None, Some, Ok, Err, refl}
use Rattle.topos_model.specs.declared.ty.Ty.{Ty}
use Rattle.topos_model.specs.declared.term.Term.{Term}
use Rattle.topos_model.specs.declared.term.Term.TheVariants as to
use Rattle.topos_model.specs.declared.fault.Fault.{Fault}
use Rattle.topos_text.specs.Tokens.{Written}
use Rattle.topos_text.specs.Trees.{Binding, Binder, TermTree, Named, Truth, Falsity, Unit, Grouped, Paired, First, Second, Applied, Subset, Equal, Member, Not, And, Or, Implies, Bound}
use Rattle.topos_text.specs.Names.{Name, Scope, number_in, map_of}
use Rattle.topos_text.specs.TermNames.{type_of, term_of, both, bound}
use Rattle.topos_names.specs.Operands.{name_of}

module _ (s : Scope) (Γ : List Name) where
  -- a variable or a map before its argument
  module _ (x : Written) (t : TermTree) where
    pub variable-stops : (k : ℕ) (fault : Fault) → number_in Γ x.text ≡ Some k → term_of s Γ t ≡ Err fault → term_of s Γ (Applied (Named x) t) ≡ Err fault
    unfolding term_of
    variable-stops k fault p e = rw (p, e)

    pub variable-applied : (k : ℕ) (u : Term) → number_in Γ x.text ≡ Some k → term_of s Γ t ≡ Ok u → term_of s Γ (Applied (Named x) t) ≡ Ok (to.Eval (to.Var k) u)
    unfolding term_of
    variable-applied k u p e = rw (p, e)

    pub map-unknown : (fault : Fault) → number_in Γ x.text ≡ None → map_of s x ≡ Err fault → term_of s Γ (Applied (Named x) t) ≡ Err fault
    unfolding term_of
    map-unknown fault p e = rw (p, e)

    pub map-stops : (m : ℕ) (fault : Fault) → number_in Γ x.text ≡ None → map_of s x ≡ Ok m → term_of s Γ t ≡ Err fault → term_of s Γ (Applied (Named x) t) ≡ Err fault
    unfolding term_of
    map-stops m fault p q e = rw (p, q, e)

    pub map-applied : (m : ℕ) (u : Term) → number_in Γ x.text ≡ None → map_of s x ≡ Ok m → term_of s Γ t ≡ Ok u → term_of s Γ (Applied (Named x) t) ≡ Ok (to.App m u)
    unfolding term_of
    map-applied m u p q e = rw (p, q, e)

  -- a variable bound in a term
  pub bound_made : (b : Binder) (x : Binding) (t : TermTree) (T : Ty) (u : Term) → type_of s x.type ≡ Ok T → term_of s (x.variable.text ∷ Γ) t ≡ Ok u → term_of s Γ (Bound b x t) ≡ Ok (bound s b T u)
  unfolding term_of
  bound_made b x t T u p e = rw (p, e)

  -- another term before its argument
  pub term_applied : (h t : TermTree) → name_of h ≡ None → term_of s Γ (Applied h t) ≡ both s (term_of s Γ h) (term_of s Γ t) to.Eval
  unfolding term_of
  term_applied (Named x) t p = cc
  term_applied (Truth) t p = refl
  term_applied (Falsity) t p = refl
  term_applied (Unit) t p = refl
  term_applied (Grouped a) t p = refl
  term_applied (Paired a b) t p = refl
  term_applied (First a) t p = refl
  term_applied (Second a) t p = refl
  term_applied (Applied a b) t p = refl
  term_applied (Subset a b) t p = refl
  term_applied (Equal a b) t p = refl
  term_applied (Member a b) t p = refl
  term_applied (Not a) t p = refl
  term_applied (And a b) t p = refl
  term_applied (Or a b) t p = refl
  term_applied (Implies a b) t p = refl
  term_applied (Bound a b c) t p = refl
