-- The parts of a type and the subterms of a term, a form at a time.
use Rattle.std.proofs.Common.{◌≡◌, ℕ, List, [], ◌∷◌, ◌++◌, refl}
use Rattle.topos_model.specs.declared.ty.Ty.{Ty, Base, One, Omega, Two, Pow, Fun}
use Rattle.topos_model.specs.declared.ty.Ty.TheBlock.{hidden-the_row-Ty-0}
use denote.Hole.Carrier
use Rattle.topos_model.specs.declared.term.Term.{Term, Var, Star, Pair, Fst, Snd, App, Eval, Lam, Compr, Eq, Member, Truth, Falsity, And, Or, Implies, Not, Forall, Exists, Unique}
use Rattle.topos_model.specs.declared.term.Term.TheBlock.{hidden-the_row-Term-0}
use Rattle.topos_model.specs.statements.Needs.{parts, inner}

pub parts-Base : (n : ℕ) → parts (Base n) ≡ (Base n ∷ [])
unfolding parts inner hidden-the_row-Ty-0 hidden-the_row-Term-0 Carrier.hidden
parts-Base n = refl

pub parts-One : parts One ≡ (One ∷ [])
unfolding parts inner hidden-the_row-Ty-0 hidden-the_row-Term-0 Carrier.hidden
parts-One = refl

pub parts-Omega : parts Omega ≡ (Omega ∷ [])
unfolding parts inner hidden-the_row-Ty-0 hidden-the_row-Term-0 Carrier.hidden
parts-Omega = refl

pub parts-Two : (S : Ty) (T : Ty) → parts (Two S T) ≡ (Two S T ∷ parts S ++ parts T)
unfolding parts inner hidden-the_row-Ty-0 hidden-the_row-Term-0 Carrier.hidden
parts-Two S T = refl

pub parts-Pow : (T : Ty) → parts (Pow T) ≡ (Pow T ∷ parts T)
unfolding parts inner hidden-the_row-Ty-0 hidden-the_row-Term-0 Carrier.hidden
parts-Pow T = refl

pub parts-Fun : (S : Ty) (T : Ty) → parts (Fun S T) ≡ (Fun S T ∷ parts S ++ parts T)
unfolding parts inner hidden-the_row-Ty-0 hidden-the_row-Term-0 Carrier.hidden
parts-Fun S T = refl

pub ruleset parts_rules = (parts-Base, parts-One, parts-Omega, parts-Two, parts-Pow, parts-Fun)

pub inner-Var : (Γ : List Ty) (k : ℕ) → inner Γ (Var k) ≡ []
unfolding parts inner hidden-the_row-Ty-0 hidden-the_row-Term-0 Carrier.hidden
inner-Var Γ k = refl

pub inner-Star : (Γ : List Ty) → inner Γ Star ≡ []
unfolding parts inner hidden-the_row-Ty-0 hidden-the_row-Term-0 Carrier.hidden
inner-Star Γ = refl

pub inner-Pair : (Γ : List Ty) (t : Term) (u : Term) → inner Γ (Pair t u) ≡ ((Γ, t) ∷ inner Γ t ++ (Γ, u) ∷ inner Γ u)
unfolding parts inner hidden-the_row-Ty-0 hidden-the_row-Term-0 Carrier.hidden
inner-Pair Γ t u = refl

pub inner-Fst : (Γ : List Ty) (t : Term) → inner Γ (Fst t) ≡ ((Γ, t) ∷ inner Γ t)
unfolding parts inner hidden-the_row-Ty-0 hidden-the_row-Term-0 Carrier.hidden
inner-Fst Γ t = refl

pub inner-Snd : (Γ : List Ty) (t : Term) → inner Γ (Snd t) ≡ ((Γ, t) ∷ inner Γ t)
unfolding parts inner hidden-the_row-Ty-0 hidden-the_row-Term-0 Carrier.hidden
inner-Snd Γ t = refl

pub inner-App : (Γ : List Ty) (m : ℕ) (t : Term) → inner Γ (App m t) ≡ ((Γ, t) ∷ inner Γ t)
unfolding parts inner hidden-the_row-Ty-0 hidden-the_row-Term-0 Carrier.hidden
inner-App Γ m t = refl

pub inner-Eval : (Γ : List Ty) (t : Term) (u : Term) → inner Γ (Eval t u) ≡ ((Γ, t) ∷ inner Γ t ++ (Γ, u) ∷ inner Γ u)
unfolding parts inner hidden-the_row-Ty-0 hidden-the_row-Term-0 Carrier.hidden
inner-Eval Γ t u = refl

pub inner-Lam : (Γ : List Ty) (T : Ty) (t : Term) → inner Γ (Lam T t) ≡ ((T ∷ Γ, t) ∷ inner (T ∷ Γ) t)
unfolding parts inner hidden-the_row-Ty-0 hidden-the_row-Term-0 Carrier.hidden
inner-Lam Γ T t = refl

pub inner-Compr : (Γ : List Ty) (T : Ty) (φ : Term) → inner Γ (Compr T φ) ≡ ((T ∷ Γ, φ) ∷ inner (T ∷ Γ) φ)
unfolding parts inner hidden-the_row-Ty-0 hidden-the_row-Term-0 Carrier.hidden
inner-Compr Γ T φ = refl

pub inner-Eq : (Γ : List Ty) (t : Term) (u : Term) → inner Γ (Eq t u) ≡ ((Γ, t) ∷ inner Γ t ++ (Γ, u) ∷ inner Γ u)
unfolding parts inner hidden-the_row-Ty-0 hidden-the_row-Term-0 Carrier.hidden
inner-Eq Γ t u = refl

pub inner-Member : (Γ : List Ty) (t : Term) (u : Term) → inner Γ (Member t u) ≡ ((Γ, t) ∷ inner Γ t ++ (Γ, u) ∷ inner Γ u)
unfolding parts inner hidden-the_row-Ty-0 hidden-the_row-Term-0 Carrier.hidden
inner-Member Γ t u = refl

pub inner-Truth : (Γ : List Ty) → inner Γ Truth ≡ []
unfolding parts inner hidden-the_row-Ty-0 hidden-the_row-Term-0 Carrier.hidden
inner-Truth Γ = refl

pub inner-Falsity : (Γ : List Ty) → inner Γ Falsity ≡ []
unfolding parts inner hidden-the_row-Ty-0 hidden-the_row-Term-0 Carrier.hidden
inner-Falsity Γ = refl

pub inner-And : (Γ : List Ty) (φ : Term) (ψ : Term) → inner Γ (And φ ψ) ≡ ((Γ, φ) ∷ inner Γ φ ++ (Γ, ψ) ∷ inner Γ ψ)
unfolding parts inner hidden-the_row-Ty-0 hidden-the_row-Term-0 Carrier.hidden
inner-And Γ φ ψ = refl

pub inner-Or : (Γ : List Ty) (φ : Term) (ψ : Term) → inner Γ (Or φ ψ) ≡ ((Γ, φ) ∷ inner Γ φ ++ (Γ, ψ) ∷ inner Γ ψ)
unfolding parts inner hidden-the_row-Ty-0 hidden-the_row-Term-0 Carrier.hidden
inner-Or Γ φ ψ = refl

pub inner-Implies : (Γ : List Ty) (φ : Term) (ψ : Term) → inner Γ (Implies φ ψ) ≡ ((Γ, φ) ∷ inner Γ φ ++ (Γ, ψ) ∷ inner Γ ψ)
unfolding parts inner hidden-the_row-Ty-0 hidden-the_row-Term-0 Carrier.hidden
inner-Implies Γ φ ψ = refl

pub inner-Not : (Γ : List Ty) (φ : Term) → inner Γ (Not φ) ≡ ((Γ, φ) ∷ inner Γ φ)
unfolding parts inner hidden-the_row-Ty-0 hidden-the_row-Term-0 Carrier.hidden
inner-Not Γ φ = refl

pub inner-Forall : (Γ : List Ty) (T : Ty) (φ : Term) → inner Γ (Forall T φ) ≡ ((T ∷ Γ, φ) ∷ inner (T ∷ Γ) φ)
unfolding parts inner hidden-the_row-Ty-0 hidden-the_row-Term-0 Carrier.hidden
inner-Forall Γ T φ = refl

pub inner-Exists : (Γ : List Ty) (T : Ty) (φ : Term) → inner Γ (Exists T φ) ≡ ((T ∷ Γ, φ) ∷ inner (T ∷ Γ) φ)
unfolding parts inner hidden-the_row-Ty-0 hidden-the_row-Term-0 Carrier.hidden
inner-Exists Γ T φ = refl

pub inner-Unique : (Γ : List Ty) (T : Ty) (φ : Term) → inner Γ (Unique T φ) ≡ ((T ∷ Γ, φ) ∷ inner (T ∷ Γ) φ)
unfolding parts inner hidden-the_row-Ty-0 hidden-the_row-Term-0 Carrier.hidden
inner-Unique Γ T φ = refl

pub ruleset inner_rules = (inner-Var, inner-Star, inner-Pair, inner-Fst, inner-Snd, inner-App, inner-Eval, inner-Lam, inner-Compr, inner-Eq, inner-Member, inner-Truth, inner-Falsity, inner-And, inner-Or, inner-Implies, inner-Not, inner-Forall, inner-Exists, inner-Unique)
