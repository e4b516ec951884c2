-- What the pass over a term lists, a form of term at a time.
use Rattle.std.proofs.Common.{◌≡◌, ◌⊎◌, inl, inr, ℕ, List, [], ◌∷◌, ◌++◌, refl}
use Rattle.topos_model.specs.declared.ty.Ty.{Ty}
use Rattle.topos_model.specs.declared.context.MapTy.{MapTy}
use Rattle.topos_model.specs.declared.term.Term.{Term, Var, Star, Pair, Fst, Snd, App, Eval, Lam, Compr, Eq, Member, Truth, Falsity, And, Or, Implies, Not, Forall, Exists, Unique}
use Rattle.topos_model.specs.declared.term.Term.TheBlock.{hidden-the_row-Term-0}
use denote.Hole.Carrier
use Rattle.topos_model.specs.statements.Needs.{product}
use Rattle.term_typing.specs.Noted.{inside, noted}
use Rattle.term_typing.proofs.TermTypings.{IsQuantified, IsConnected}

module _ (maps : List MapTy) (Γ : List Ty) where
  pub inside-Var : (k : ℕ) → inside maps Γ (Var k) ≡ []
  unfolding inside hidden-the_row-Term-0 Carrier.hidden
  inside-Var k = refl

  pub inside-Star : inside maps Γ Star ≡ []
  unfolding inside hidden-the_row-Term-0 Carrier.hidden
  inside-Star = refl

  pub inside-Truth : inside maps Γ Truth ≡ []
  unfolding inside hidden-the_row-Term-0 Carrier.hidden
  inside-Truth = refl

  pub inside-Falsity : inside maps Γ Falsity ≡ []
  unfolding inside hidden-the_row-Term-0 Carrier.hidden
  inside-Falsity = refl

  pub inside-Fst : (t : Term) → inside maps Γ (Fst t) ≡ noted maps Γ t
  unfolding inside hidden-the_row-Term-0 Carrier.hidden
  inside-Fst t = refl

  pub inside-Snd : (t : Term) → inside maps Γ (Snd t) ≡ noted maps Γ t
  unfolding inside hidden-the_row-Term-0 Carrier.hidden
  inside-Snd t = refl

  pub inside-Not : (t : Term) → inside maps Γ (Not t) ≡ noted maps Γ t
  unfolding inside hidden-the_row-Term-0 Carrier.hidden
  inside-Not t = refl

  pub inside-App : (m : ℕ) (t : Term) → inside maps Γ (App m t) ≡ noted maps Γ t
  unfolding inside hidden-the_row-Term-0 Carrier.hidden
  inside-App m t = refl

  pub inside-Pair : (t u : Term) → inside maps Γ (Pair t u) ≡ noted maps Γ t ++ noted maps Γ u
  unfolding inside hidden-the_row-Term-0 Carrier.hidden
  inside-Pair t u = refl

  pub inside-Eval : (t u : Term) → inside maps Γ (Eval t u) ≡ noted maps Γ t ++ noted maps Γ u
  unfolding inside hidden-the_row-Term-0 Carrier.hidden
  inside-Eval t u = refl

  pub inside-Eq : (t u : Term) → inside maps Γ (Eq t u) ≡ noted maps Γ t ++ noted maps Γ u
  unfolding inside hidden-the_row-Term-0 Carrier.hidden
  inside-Eq t u = refl

  pub inside-Member : (t u : Term) → inside maps Γ (Member t u) ≡ noted maps Γ t ++ noted maps Γ u
  unfolding inside hidden-the_row-Term-0 Carrier.hidden
  inside-Member t u = refl

  pub inside-And : (t u : Term) → inside maps Γ (And t u) ≡ noted maps Γ t ++ noted maps Γ u
  unfolding inside hidden-the_row-Term-0 Carrier.hidden
  inside-And t u = refl

  pub inside-Or : (t u : Term) → inside maps Γ (Or t u) ≡ noted maps Γ t ++ noted maps Γ u
  unfolding inside hidden-the_row-Term-0 Carrier.hidden
  inside-Or t u = refl

  pub inside-Implies : (t u : Term) → inside maps Γ (Implies t u) ≡ noted maps Γ t ++ noted maps Γ u
  unfolding inside hidden-the_row-Term-0 Carrier.hidden
  inside-Implies t u = refl

  pub inside-Lam : (S : Ty) (t : Term) → inside maps Γ (Lam S t) ≡ product (S ∷ Γ) ∷ noted maps (S ∷ Γ) t
  unfolding inside hidden-the_row-Term-0 Carrier.hidden
  inside-Lam S t = refl

  pub inside-Compr : (S : Ty) (t : Term) → inside maps Γ (Compr S t) ≡ product (S ∷ Γ) ∷ noted maps (S ∷ Γ) t
  unfolding inside hidden-the_row-Term-0 Carrier.hidden
  inside-Compr S t = refl

  pub inside-Forall : (S : Ty) (t : Term) → inside maps Γ (Forall S t) ≡ product (S ∷ Γ) ∷ noted maps (S ∷ Γ) t
  unfolding inside hidden-the_row-Term-0 Carrier.hidden
  inside-Forall S t = refl

  pub inside-Exists : (S : Ty) (t : Term) → inside maps Γ (Exists S t) ≡ product (S ∷ Γ) ∷ noted maps (S ∷ Γ) t
  unfolding inside hidden-the_row-Term-0 Carrier.hidden
  inside-Exists S t = refl

  pub inside-Unique : (S : Ty) (t : Term) → inside maps Γ (Unique S t) ≡ product (S ∷ Γ) ∷ noted maps (S ∷ Γ) t
  unfolding inside hidden-the_row-Term-0 Carrier.hidden
  inside-Unique S t = refl

  pub inside_constant : (x : Term) → (x ≡ Truth) ⊎ (x ≡ Falsity) → inside maps Γ x ≡ []
  inside_constant x (inl q) = rw q inside-Truth
  inside_constant x (inr q) = rw q inside-Falsity

  pub inside_connected : (x t u : Term) → IsConnected maps Γ x t u → inside maps Γ x ≡ noted maps Γ t ++ noted maps Γ u
  inside_connected x t u (inl q) = rw q (inside-And t u)
  inside_connected x t u (inr (inl q)) = rw q (inside-Or t u)
  inside_connected x t u (inr (inr q)) = rw q (inside-Implies t u)

  pub inside_quantified : (x : Term) (S : Ty) (t : Term) → IsQuantified maps Γ x S t → inside maps Γ x ≡ product (S ∷ Γ) ∷ noted maps (S ∷ Γ) t
  inside_quantified x S t (inl q) = rw q (inside-Forall S t)
  inside_quantified x S t (inr (inl q)) = rw q (inside-Exists S t)
  inside_quantified x S t (inr (inr q)) = rw q (inside-Unique S t)
