-- The type of a term, or the first fault, depth first and left to right (VI.5).
use Rattle.std.specs.Prelude.{◌≡◌, Bool, false, true, cond, ◌&&◌, List, ◌∷◌, ℕ, get_or, eqb, Result, Ok, Err}
use Rattle.topos_model.specs.declared.ty.Ty.{Ty, out-Ty, Base, One, Omega, Two, Pow, Fun, Two', Pow', Fun', more_of-Ty as one, end_of-Ty as none}
use Rattle.topos_model.specs.declared.ty.Ty.TheOpen.{Two as IsTwo, Pow as IsPow, Fun as IsFun}
use Rattle.topos_model.specs.types.SameType.{same_type}
use Rattle.topos_model.specs.declared.term.Term.{Term, Var, Star, Pair', Fst', Snd', App', Eval', Lam', Compr', Eq', Member', Truth, Falsity, And', Or', Implies', Not', Forall', Exists', Unique', more_of-Term as only, end_of-Term as end}
use Rattle.topos_model.specs.declared.fault.Fault.{Fault}
use Rattle.topos_model.specs.declared.fault.Fault.TheVariants.{Expected, NotAFunction, NotAPower, NotAPair}
use Rattle.topos_model.specs.declared.context.MapTy.{MapTy}

-- a type, or a fault
abbrev pub Typing : Type 0
Typing = Result Ty Fault

abbrev pub then : Typing → (Ty → Typing) → Typing
then (Ok T) next = next T
then (Err fault) next = Err fault

-- go on where the type that is found is the one that is needed
abbrev pub expect : Ty → Ty → Typing → Typing
expect needed found next = cond (same_type needed found) next (Err (Expected needed found))

-- go on where the term is a formula
abbrev pub formula : Typing → Typing → Typing
formula typing next = then typing (λ T. expect Omega T next)

abbrev pub function : Ty → (Ty → Ty → Typing) → Typing
unfolding out-Ty
function T next = elim (out-Ty T) [ IsFun S U ↦ next S U | _ ↦ Err (NotAFunction T) ]

abbrev pub power : Ty → (Ty → Typing) → Typing
unfolding out-Ty
power T next = elim (out-Ty T) [ IsPow S ↦ next S | _ ↦ Err (NotAPower T) ]

abbrev pub pair : Ty → (Ty → Ty → Typing) → Typing
unfolding out-Ty
pair T next = elim (out-Ty T) [ IsTwo S U ↦ next S U | _ ↦ Err (NotAPair T) ]

-- the ends of a map
abbrev pub ends_of : List MapTy → ℕ → MapTy
ends_of maps m = get_or maps m (record { dom = One; cod = One })

module _ (maps : List MapTy) where
  -- in a context, the innermost variable first
  unfoldable pub typed : List Ty → Term → Typing
  typed Γ (Var k) = Ok (get_or Γ k One)
  typed Γ Star = Ok One
  typed Γ (Pair' _ (only t end) _ (only u end)) = then (typed Γ t) (λ T. then (typed Γ u) (λ U. Ok (Two T U)))
  typed Γ (Fst' _ (only t end)) = then (typed Γ t) (λ T. pair T (λ S U. Ok S))
  typed Γ (Snd' _ (only t end)) = then (typed Γ t) (λ T. pair T (λ S U. Ok U))
  typed Γ (App' m _ (only t end)) = then (typed Γ t) (λ T. expect (ends_of maps m).dom T (Ok (ends_of maps m).cod))
  typed Γ (Eval' _ (only t end) _ (only u end)) =
      then (typed Γ t) (λ T. then (typed Γ u) (λ U. function T (λ S V. expect S U (Ok V))))
  typed Γ (Lam' T _ (only t end)) = then (typed (T ∷ Γ) t) (λ U. Ok (Fun T U))
  typed Γ (Compr' T _ (only φ end)) = formula (typed (T ∷ Γ) φ) (Ok (Pow T))
  typed Γ (Eq' _ (only t end) _ (only u end)) = then (typed Γ t) (λ T. then (typed Γ u) (λ U. expect T U (Ok Omega)))
  typed Γ (Member' _ (only t end) _ (only u end)) =
      then (typed Γ t) (λ T. then (typed Γ u) (λ U. power U (λ S. expect S T (Ok Omega))))
  typed Γ Truth = Ok Omega
  typed Γ Falsity = Ok Omega
  typed Γ (And' _ (only φ end) _ (only ψ end)) = formula (typed Γ φ) (formula (typed Γ ψ) (Ok Omega))
  typed Γ (Or' _ (only φ end) _ (only ψ end)) = formula (typed Γ φ) (formula (typed Γ ψ) (Ok Omega))
  typed Γ (Implies' _ (only φ end) _ (only ψ end)) = formula (typed Γ φ) (formula (typed Γ ψ) (Ok Omega))
  typed Γ (Not' _ (only φ end)) = formula (typed Γ φ) (Ok Omega)
  typed Γ (Forall' T _ (only φ end)) = formula (typed (T ∷ Γ) φ) (Ok Omega)
  typed Γ (Exists' T _ (only φ end)) = formula (typed (T ∷ Γ) φ) (Ok Omega)
  typed Γ (Unique' T _ (only φ end)) = formula (typed (T ∷ Γ) φ) (Ok Omega)

  -- a term of a context has a type
  abbrev pub Typed : List Ty → Term → Ty → Type 0
  Typed Γ (Var k) U = U ≡ get_or Γ k One
  Typed Γ Star U = U ≡ One
  Typed Γ (Pair' _ (only t end) _ (only u end)) U = (S : Ty) × (T : Ty) × Typed Γ t S × Typed Γ u T × (U ≡ Two S T)
  Typed Γ (Fst' _ (only t end)) U = (T : Ty) × Typed Γ t (Two U T)
  Typed Γ (Snd' _ (only t end)) U = (S : Ty) × Typed Γ t (Two S U)
  Typed Γ (App' m _ (only t end)) U = Typed Γ t (ends_of maps m).dom × (U ≡ (ends_of maps m).cod)
  Typed Γ (Eval' _ (only t end) _ (only u end)) U = (S : Ty) × Typed Γ t (Fun S U) × Typed Γ u S
  Typed Γ (Lam' S _ (only t end)) U = (T : Ty) × Typed (S ∷ Γ) t T × (U ≡ Fun S T)
  Typed Γ (Compr' S _ (only φ end)) U = Typed (S ∷ Γ) φ Omega × (U ≡ Pow S)
  Typed Γ (Eq' _ (only t end) _ (only u end)) U = (T : Ty) × Typed Γ t T × Typed Γ u T × (U ≡ Omega)
  Typed Γ (Member' _ (only t end) _ (only u end)) U = (T : Ty) × Typed Γ t T × Typed Γ u (Pow T) × (U ≡ Omega)
  Typed Γ Truth U = U ≡ Omega
  Typed Γ Falsity U = U ≡ Omega
  Typed Γ (And' _ (only φ end) _ (only ψ end)) U = Typed Γ φ Omega × Typed Γ ψ Omega × (U ≡ Omega)
  Typed Γ (Or' _ (only φ end) _ (only ψ end)) U = Typed Γ φ Omega × Typed Γ ψ Omega × (U ≡ Omega)
  Typed Γ (Implies' _ (only φ end) _ (only ψ end)) U = Typed Γ φ Omega × Typed Γ ψ Omega × (U ≡ Omega)
  Typed Γ (Not' _ (only φ end)) U = Typed Γ φ Omega × (U ≡ Omega)
  Typed Γ (Forall' T _ (only φ end)) U = Typed (T ∷ Γ) φ Omega × (U ≡ Omega)
  Typed Γ (Exists' T _ (only φ end)) U = Typed (T ∷ Γ) φ Omega × (U ≡ Omega)
  Typed Γ (Unique' T _ (only φ end)) U = Typed (T ∷ Γ) φ Omega × (U ≡ Omega)

  -- the law between the two
  abbrev pub TypedExactly : Type 0
  TypedExactly = (Γ : List Ty) (t : Term) (U : Ty) → ((typed Γ t ≡ Ok U) → Typed Γ t U) × (Typed Γ t U → (typed Γ t ≡ Ok U))
