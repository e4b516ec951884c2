-- The type of a term, a form of term at a time.
use Rattle.std.proofs.Common.{◌≡◌, ℕ, List, ◌∷◌, get_or, refl}
use Rattle.std.specs.Prelude.{Ok}
use Rattle.topos_model.specs.declared.ty.Ty.{Ty, One, Omega, Two, Pow, Fun}
use Rattle.topos_model.specs.declared.context.MapTy.{MapTy}
use denote.Hole.Carrier
use Rattle.topos_model.specs.declared.term.Term.{Term, Var, Star, Pair, Fst, Snd, App, Eval, Lam, Compr, Eq, Member, Truth, Falsity, And, Or, Implies, Not, Forall, Exists, Unique}
use Rattle.topos_model.specs.declared.term.Term.TheBlock.{hidden-the_row-Term-0}
use Rattle.topos_model.specs.formulas.Typing.{then, expect, formula, function, power, pair, ends_of, typed}

module _ (maps : List MapTy) where
  pub typed-Var : (Γ : List Ty) (k : ℕ) → typed maps Γ (Var k) ≡ Ok (get_or Γ k One)
  unfolding typed hidden-the_row-Term-0 Carrier.hidden
  typed-Var Γ k = refl

  pub typed-Star : (Γ : List Ty) → typed maps Γ Star ≡ Ok One
  unfolding typed hidden-the_row-Term-0 Carrier.hidden
  typed-Star Γ = refl

  pub typed-Pair : (Γ : List Ty) (t : Term) (u : Term) → typed maps Γ (Pair t u) ≡ (then (typed maps Γ t) (λ T. then (typed maps Γ u) (λ U. Ok (Two T U))))
  unfolding typed hidden-the_row-Term-0 Carrier.hidden
  typed-Pair Γ t u = refl

  pub typed-Fst : (Γ : List Ty) (t : Term) → typed maps Γ (Fst t) ≡ (then (typed maps Γ t) (λ T. pair T (λ S U. Ok S)))
  unfolding typed hidden-the_row-Term-0 Carrier.hidden
  typed-Fst Γ t = refl

  pub typed-Snd : (Γ : List Ty) (t : Term) → typed maps Γ (Snd t) ≡ (then (typed maps Γ t) (λ T. pair T (λ S U. Ok U)))
  unfolding typed hidden-the_row-Term-0 Carrier.hidden
  typed-Snd Γ t = refl

  pub typed-App : (Γ : List Ty) (m : ℕ) (t : Term) → typed maps Γ (App m t) ≡ (then (typed maps Γ t) (λ T. expect (ends_of maps m).dom T (Ok (ends_of maps m).cod)))
  unfolding typed hidden-the_row-Term-0 Carrier.hidden
  typed-App Γ m t = refl

  pub typed-Eval : (Γ : List Ty) (t : Term) (u : Term) → typed maps Γ (Eval t u) ≡ (then (typed maps Γ t) (λ T. then (typed maps Γ u) (λ U. function T (λ S V. expect S U (Ok V)))))
  unfolding typed hidden-the_row-Term-0 Carrier.hidden
  typed-Eval Γ t u = refl

  pub typed-Lam : (Γ : List Ty) (T : Ty) (t : Term) → typed maps Γ (Lam T t) ≡ (then (typed maps (T ∷ Γ) t) (λ U. Ok (Fun T U)))
  unfolding typed hidden-the_row-Term-0 Carrier.hidden
  typed-Lam Γ T t = refl

  pub typed-Compr : (Γ : List Ty) (T : Ty) (φ : Term) → typed maps Γ (Compr T φ) ≡ (formula (typed maps (T ∷ Γ) φ) (Ok (Pow T)))
  unfolding typed hidden-the_row-Term-0 Carrier.hidden
  typed-Compr Γ T φ = refl

  pub typed-Eq : (Γ : List Ty) (t : Term) (u : Term) → typed maps Γ (Eq t u) ≡ (then (typed maps Γ t) (λ T. then (typed maps Γ u) (λ U. expect T U (Ok Omega))))
  unfolding typed hidden-the_row-Term-0 Carrier.hidden
  typed-Eq Γ t u = refl

  pub typed-Member : (Γ : List Ty) (t : Term) (u : Term) → typed maps Γ (Member t u) ≡ (then (typed maps Γ t) (λ T. then (typed maps Γ u) (λ U. power U (λ S. expect S T (Ok Omega)))))
  unfolding typed hidden-the_row-Term-0 Carrier.hidden
  typed-Member Γ t u = refl

  pub typed-Truth : (Γ : List Ty) → typed maps Γ Truth ≡ Ok Omega
  unfolding typed hidden-the_row-Term-0 Carrier.hidden
  typed-Truth Γ = refl

  pub typed-Falsity : (Γ : List Ty) → typed maps Γ Falsity ≡ Ok Omega
  unfolding typed hidden-the_row-Term-0 Carrier.hidden
  typed-Falsity Γ = refl

  pub typed-And : (Γ : List Ty) (φ : Term) (ψ : Term) → typed maps Γ (And φ ψ) ≡ formula (typed maps Γ φ) (formula (typed maps Γ ψ) (Ok Omega))
  unfolding typed hidden-the_row-Term-0 Carrier.hidden
  typed-And Γ φ ψ = refl

  pub typed-Or : (Γ : List Ty) (φ : Term) (ψ : Term) → typed maps Γ (Or φ ψ) ≡ formula (typed maps Γ φ) (formula (typed maps Γ ψ) (Ok Omega))
  unfolding typed hidden-the_row-Term-0 Carrier.hidden
  typed-Or Γ φ ψ = refl

  pub typed-Implies : (Γ : List Ty) (φ : Term) (ψ : Term) → typed maps Γ (Implies φ ψ) ≡ formula (typed maps Γ φ) (formula (typed maps Γ ψ) (Ok Omega))
  unfolding typed hidden-the_row-Term-0 Carrier.hidden
  typed-Implies Γ φ ψ = refl

  pub typed-Not : (Γ : List Ty) (φ : Term) → typed maps Γ (Not φ) ≡ formula (typed maps Γ φ) (Ok Omega)
  unfolding typed hidden-the_row-Term-0 Carrier.hidden
  typed-Not Γ φ = refl

  pub typed-Forall : (Γ : List Ty) (T : Ty) (φ : Term) → typed maps Γ (Forall T φ) ≡ (formula (typed maps (T ∷ Γ) φ) (Ok Omega))
  unfolding typed hidden-the_row-Term-0 Carrier.hidden
  typed-Forall Γ T φ = refl

  pub typed-Exists : (Γ : List Ty) (T : Ty) (φ : Term) → typed maps Γ (Exists T φ) ≡ (formula (typed maps (T ∷ Γ) φ) (Ok Omega))
  unfolding typed hidden-the_row-Term-0 Carrier.hidden
  typed-Exists Γ T φ = refl

  pub typed-Unique : (Γ : List Ty) (T : Ty) (φ : Term) → typed maps Γ (Unique T φ) ≡ (formula (typed maps (T ∷ Γ) φ) (Ok Omega))
  unfolding typed hidden-the_row-Term-0 Carrier.hidden
  typed-Unique Γ T φ = refl

  pub ruleset typed_rules = (typed-Var, typed-Star, typed-Pair, typed-Fst, typed-Snd, typed-App, typed-Eval, typed-Lam, typed-Compr, typed-Eq, typed-Member, typed-Truth, typed-Falsity, typed-And, typed-Or, typed-Implies, typed-Not, typed-Forall, typed-Exists, typed-Unique)
