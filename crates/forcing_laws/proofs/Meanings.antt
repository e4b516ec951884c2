-- The simultaneous induction on values and forcing.
use Rattle.std.proofs.Common.{◌≡◌, ℕ, List, ◌∷◌, refl, ◌∙◌, sym, ap, subst}
use Rattle.topos_model.specs.declared.ty.Ty.{Ty, One, Omega, Two, Pow, Fun}
use Rattle.topos_model.specs.declared.term.Term.{Term, Var, Star, Pair', Fst', Snd', App', Eval', Lam', Compr', Eq', Member', Truth, Falsity, And', Or', Implies', Not', Forall', Exists', Unique', more_of-Term as only, end_of-Term as end}
use Rattle.topos_model.specs.declared.value.Val.{Val}
use Rattle.topos_model.specs.declared.context.MapTy.{MapTy}
use Rattle.topos_model.specs.statements.Needs.{inner, subterms}
use Rattle.topos_model.specs.formulas.Typing.{ends_of, Typed}
use Rattle.topos_model.specs.formulas.Forcing.{World, Assigned, Property, Meaning, meaning, by_value, by_forcing}
use Rattle.topos_model.specs.formulas.TermLaws.{IsWorld, image}
use Rattle.forcing_laws.proofs.Properties.{IsProperty, IsValue, Means}
use Rattle.forcing_laws.proofs.Operators.{truth_property, falsity_property, and_property, or_property, implies_property, not_property, exists_property, forall_property}
use Rattle.forcing_laws.proofs.TruthAndForcing.{value_means, forcing_means}
use Rattle.forcing_laws.proofs.TermValues.{var_value, star_value, pair_value, first_value, second_value, eval_value, lam_value, compr_value}
use Rattle.forcing_laws.proofs.Formulas.{eq_property, member_property, unique_property}
use Rattle.forcing_laws.proofs.NamedSheaves.{AreOfSheaves, below, left, right, type_of_sheaves, binder_of_sheaves}

module _ (w : World) (maps : List MapTy) (world : IsWorld w maps) where
  -- a map at a value
  app_value : (Γ : List Ty) (m : ℕ) (v : ℕ → Assigned → Val) → IsValue w Γ (ends_of maps m).dom v → IsValue w Γ (ends_of maps m).cod (λ c a. image w m c (v c a))
  app_value Γ m v p = record {
    within = λ c a t. world.within m c (v c a) t.low (p.within c a t);
    natural = λ c f a t i. ap (image w m _) (p.natural c f a t i) ∙ world.natural m c f (v c a) i (p.within c a t);
  }

  valued : (Γ : List Ty) (T U : Ty) (v : ℕ → Assigned → Val) → U ≡ T → IsValue w Γ T v → Means w Γ U (by_value w v)
  valued Γ T U v e h = value_means w world Γ U v (subst (λ T. IsValue w Γ T v) (sym e) h)

  forced : (Γ : List Ty) (U : Ty) (φ : Property) → U ≡ Omega → IsProperty w Γ φ → Means w Γ U (by_forcing w φ)
  forced Γ U φ e h = subst (λ T. Means w Γ T (by_forcing w φ)) (sym e) (forcing_means w world Γ φ h)

  property : (Γ : List Ty) (m : Meaning) → Means w Γ Omega m → IsProperty w Γ m.forces
  property Γ m h = (h.truth refl).property

  pub meanings : (Γ : List Ty) (t : Term) (U : Ty) → Typed maps Γ t U → AreOfSheaves w maps (subterms Γ t) → Means w Γ U (meaning w t)
  unfolding meaning inner
  meanings Γ (Var n) U e g = valued Γ _ U _ e (var_value w world Γ n)
  meanings Γ Star U e g = valued Γ One U _ e (star_value w world Γ)
  meanings Γ (Pair' _ (only t end) _ (only u end)) U (S, T, p, q, e) g =
      valued Γ (Two S T) U _ e (pair_value w world Γ S T _ _ (meanings Γ t S p (left w maps Γ t u g)).value (meanings Γ u T q (right w maps Γ t u g)).value)
  meanings Γ (Fst' _ (only t end)) U (T, p) g = valued Γ U U _ refl (first_value w world Γ U T _ (meanings Γ t (Two U T) p (below w maps Γ t g)).value)
  meanings Γ (Snd' _ (only t end)) U (S, p) g = valued Γ U U _ refl (second_value w world Γ S U _ (meanings Γ t (Two S U) p (below w maps Γ t g)).value)
  meanings Γ (App' m _ (only t end)) U (p, e) g = valued Γ _ U _ e (app_value Γ m _ (meanings Γ t (ends_of maps m).dom p (below w maps Γ t g)).value)
  meanings Γ (Eval' _ (only t end) _ (only u end)) U (S, p, q) g =
      valued Γ U U _ refl (eval_value w world Γ S U _ _ (meanings Γ t (Fun S U) p (left w maps Γ t u g)).value (meanings Γ u S q (right w maps Γ t u g)).value)
  meanings Γ (Lam' S _ (only t end)) U (T, p, e) g = valued Γ (Fun S T) U _ e (lam_value w world Γ S T _ (meanings (S ∷ Γ) t T p (below w maps (S ∷ Γ) t g)).value)
  meanings Γ (Compr' T _ (only φ end)) U (p, e) g = valued Γ (Pow T) U _ e (compr_value w world Γ T _ (property (T ∷ Γ) _ (meanings (T ∷ Γ) φ Omega p (below w maps (T ∷ Γ) φ g))))
  meanings Γ (Eq' _ (only t end) _ (only u end)) U (T, p, q, e) g =
      forced Γ U _ e (eq_property w world Γ T _ _ (type_of_sheaves w maps Γ t T p (left w maps Γ t u g)) (meanings Γ t T p (left w maps Γ t u g)).value (meanings Γ u T q (right w maps Γ t u g)).value)
  meanings Γ (Member' _ (only t end) _ (only u end)) U (T, p, q, e) g =
      forced Γ U _ e (member_property w world Γ T _ _ (meanings Γ t T p (left w maps Γ t u g)).value (meanings Γ u (Pow T) q (right w maps Γ t u g)).value)
  meanings Γ Truth U e g = forced Γ U _ e (truth_property w world Γ)
  meanings Γ Falsity U e g = forced Γ U _ e (falsity_property w world Γ)
  meanings Γ (And' _ (only φ end) _ (only ψ end)) U (p, q, e) g =
      forced Γ U _ e (and_property w world Γ _ _ (property Γ _ (meanings Γ φ Omega p (left w maps Γ φ ψ g))) (property Γ _ (meanings Γ ψ Omega q (right w maps Γ φ ψ g))))
  meanings Γ (Or' _ (only φ end) _ (only ψ end)) U (p, q, e) g = forced Γ U _ e (or_property w world Γ _ _)
  meanings Γ (Implies' _ (only φ end) _ (only ψ end)) U (p, q, e) g =
      forced Γ U _ e (implies_property w world Γ _ _ (property Γ _ (meanings Γ φ Omega p (left w maps Γ φ ψ g))) (property Γ _ (meanings Γ ψ Omega q (right w maps Γ φ ψ g))))
  meanings Γ (Not' _ (only φ end)) U (p, e) g = forced Γ U _ e (not_property w world Γ _ (property Γ _ (meanings Γ φ Omega p (below w maps Γ φ g))))
  meanings Γ (Forall' T _ (only φ end)) U (p, e) g = forced Γ U _ e (forall_property w world Γ T _ (property (T ∷ Γ) _ (meanings (T ∷ Γ) φ Omega p (below w maps (T ∷ Γ) φ g))))
  meanings Γ (Exists' T _ (only φ end)) U (p, e) g = forced Γ U _ e (exists_property w world Γ T _)
  meanings Γ (Unique' T _ (only φ end)) U (p, e) g =
      forced Γ U _ e (unique_property w world Γ T _ (binder_of_sheaves w maps Γ T φ (below w maps (T ∷ Γ) φ g)) (property (T ∷ Γ) _ (meanings (T ∷ Γ) φ Omega p (below w maps (T ∷ Γ) φ g))))
