-- The types that the pass over a term lists.
use Rattle.std.specs.Prelude.{List, [], ◌∷◌, ◌++◌}
use Rattle.topos_model.specs.declared.ty.Ty.{Ty}
use Rattle.topos_model.specs.declared.term.Term.{Term, Pair', Fst', Snd', App', Eval', Lam', Compr', Eq', Member', And', Or', Implies', Not', Forall', Exists', Unique', more_of-Term as only, end_of-Term as end}
use Rattle.topos_model.specs.declared.context.MapTy.{MapTy}
use Rattle.topos_model.specs.formulas.Typing.{Typing, typed}
use Rattle.topos_model.specs.statements.Needs.{found, product}

-- types, and behind them the one that is found
unfoldable pub behind : List Ty → Typing → List Ty
behind types typing = types ++ found typing

module _ (maps : List MapTy) where
  -- of each proper subterm the type, behind those of its own subterms, and at each binder the product of the context
  unfoldable pub inside : List Ty → Term → List Ty
  inside Γ (Pair' _ (only t end) _ (only u end)) = behind (inside Γ t) (typed maps Γ t) ++ behind (inside Γ u) (typed maps Γ u)
  inside Γ (Fst' _ (only t end)) = behind (inside Γ t) (typed maps Γ t)
  inside Γ (Snd' _ (only t end)) = behind (inside Γ t) (typed maps Γ t)
  inside Γ (App' m _ (only t end)) = behind (inside Γ t) (typed maps Γ t)
  inside Γ (Eval' _ (only t end) _ (only u end)) = behind (inside Γ t) (typed maps Γ t) ++ behind (inside Γ u) (typed maps Γ u)
  inside Γ (Lam' T _ (only t end)) = product (T ∷ Γ) ∷ behind (inside (T ∷ Γ) t) (typed maps (T ∷ Γ) t)
  inside Γ (Compr' T _ (only φ end)) = product (T ∷ Γ) ∷ behind (inside (T ∷ Γ) φ) (typed maps (T ∷ Γ) φ)
  inside Γ (Eq' _ (only t end) _ (only u end)) = behind (inside Γ t) (typed maps Γ t) ++ behind (inside Γ u) (typed maps Γ u)
  inside Γ (Member' _ (only t end) _ (only u end)) = behind (inside Γ t) (typed maps Γ t) ++ behind (inside Γ u) (typed maps Γ u)
  inside Γ (And' _ (only φ end) _ (only ψ end)) = behind (inside Γ φ) (typed maps Γ φ) ++ behind (inside Γ ψ) (typed maps Γ ψ)
  inside Γ (Or' _ (only φ end) _ (only ψ end)) = behind (inside Γ φ) (typed maps Γ φ) ++ behind (inside Γ ψ) (typed maps Γ ψ)
  inside Γ (Implies' _ (only φ end) _ (only ψ end)) = behind (inside Γ φ) (typed maps Γ φ) ++ behind (inside Γ ψ) (typed maps Γ ψ)
  inside Γ (Not' _ (only φ end)) = behind (inside Γ φ) (typed maps Γ φ)
  inside Γ (Forall' T _ (only φ end)) = product (T ∷ Γ) ∷ behind (inside (T ∷ Γ) φ) (typed maps (T ∷ Γ) φ)
  inside Γ (Exists' T _ (only φ end)) = product (T ∷ Γ) ∷ behind (inside (T ∷ Γ) φ) (typed maps (T ∷ Γ) φ)
  inside Γ (Unique' T _ (only φ end)) = product (T ∷ Γ) ∷ behind (inside (T ∷ Γ) φ) (typed maps (T ∷ Γ) φ)
  inside Γ _ = []

  -- and the type of the term
  abbrev pub noted : List Ty → Term → List Ty
  noted Γ t = behind (inside Γ t) (typed maps Γ t)
