-- Terms with their variables changed: lifting and substitution by one traversal.
use Rattle.std.specs.Prelude.{ℕ, zero, suc, List, ◌∷◌, ◌++◌, length}
use Rattle.topos_model.specs.declared.ty.Ty.{Ty}
use Rattle.topos_model.specs.declared.term.Term.{Term, Var, Star, Pair, Fst, Snd, App, Eval, Lam, Compr, Eq, Member, Truth, Falsity, And, Or, Implies, Not, Forall, Exists, Unique, Pair', Fst', Snd', App', Eval', Lam', Compr', Eq', Member', And', Or', Implies', Not', Forall', Exists', Unique', more_of-Term as only, end_of-Term as end}
use Rattle.topos_model.specs.declared.context.MapTy.{MapTy}
use Rattle.topos_model.specs.formulas.Typing.{Typed}

-- the variable n below d binders becomes σ d n
unfoldable pub changed : (ℕ → ℕ → Term) → ℕ → Term → Term
changed σ d (Var n) = σ d n
changed σ d Star = Star
changed σ d (Pair' _ (only t end) _ (only u end)) = Pair (changed σ d t) (changed σ d u)
changed σ d (Fst' _ (only t end)) = Fst (changed σ d t)
changed σ d (Snd' _ (only t end)) = Snd (changed σ d t)
changed σ d (App' m _ (only t end)) = App m (changed σ d t)
changed σ d (Eval' _ (only t end) _ (only u end)) = Eval (changed σ d t) (changed σ d u)
changed σ d (Lam' T _ (only t end)) = Lam T (changed σ (suc d) t)
changed σ d (Compr' T _ (only φ end)) = Compr T (changed σ (suc d) φ)
changed σ d (Eq' _ (only t end) _ (only u end)) = Eq (changed σ d t) (changed σ d u)
changed σ d (Member' _ (only t end) _ (only u end)) = Member (changed σ d t) (changed σ d u)
changed σ d Truth = Truth
changed σ d Falsity = Falsity
changed σ d (And' _ (only φ end) _ (only ψ end)) = And (changed σ d φ) (changed σ d ψ)
changed σ d (Or' _ (only φ end) _ (only ψ end)) = Or (changed σ d φ) (changed σ d ψ)
changed σ d (Implies' _ (only φ end) _ (only ψ end)) = Implies (changed σ d φ) (changed σ d ψ)
changed σ d (Not' _ (only φ end)) = Not (changed σ d φ)
changed σ d (Forall' T _ (only φ end)) = Forall T (changed σ (suc d) φ)
changed σ d (Exists' T _ (only φ end)) = Exists T (changed σ (suc d) φ)
changed σ d (Unique' T _ (only φ end)) = Unique T (changed σ (suc d) φ)

-- one more variable at depth d
abbrev pub raised : ℕ → ℕ → ℕ
raised zero n = suc n
raised (suc d) zero = zero
raised (suc d) (suc n) = suc (raised d n)

abbrev pub lift : ℕ → Term → Term
lift d t = changed (λ d n. Var (raised d n)) d t

-- s for the variable at depth d
abbrev pub put : Term → ℕ → ℕ → Term
put s zero zero = s
put s zero (suc n) = Var n
put s (suc d) zero = Var zero
put s (suc d) (suc n) = lift zero (put s d n)

abbrev pub substituted : Term → ℕ → Term → Term
substituted s d t = changed (put s) d t

-- lifting and substitution keep types
abbrev pub LiftedIsTyped : List MapTy → Type 0
LiftedIsTyped maps = (Γ Δ : List Ty) (S U : Ty) (t : Term) → Typed maps (Δ ++ Γ) t U → Typed maps (Δ ++ S ∷ Γ) (lift (length Δ) t) U

abbrev pub SubstitutedIsTyped : List MapTy → Type 0
SubstitutedIsTyped maps =
    (Γ Δ : List Ty) (S U : Ty) (s t : Term) → Typed maps Γ s S → Typed maps (Δ ++ S ∷ Γ) t U → Typed maps (Δ ++ Γ) (substituted s (length Δ) t) U
