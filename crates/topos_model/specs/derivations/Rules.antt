-- The table of rules: the premises of each, in order, its term, and its conclusion.
use Rattle.std.specs.Prelude.{◌≡◌, List, [], ◌∷◌, ◌++◌, map, Option, Some, None, slice_get, length, ◌⊎◌}
use Rattle.std.specs.List.{All}
use Rattle.finite_lists.specs.Members.{In}
use Rattle.topos_model.specs.declared.ty.Ty.{Ty, One, Omega, Pow, Fun}
use Rattle.topos_model.specs.declared.term.Term.{Term, Var, Star, Pair, Fst, Snd, Eval, Lam, Compr, Eq, Member, Truth, Falsity, And, Or, Implies, Not, Forall, Exists}
use Rattle.topos_model.specs.declared.context.MapTy.{MapTy}
use Rattle.topos_model.specs.declared.derivation.Step.{Step}
use Rattle.topos_model.specs.declared.derivation.Derivation.{Derivation}
use Rattle.topos_model.specs.declared.fault.Fault.{Fault}
use Rattle.topos_model.specs.declared.fault.Fault.TheVariants.{BadStep}
use Rattle.topos_model.specs.formulas.Typing.{Typed}
use Rattle.topos_model.specs.statements.StatementFaults.{step_fault}
use Rattle.topos_model.specs.formulas.TermChange.{lift}
use Rattle.topos_model.specs.derivations.Derivations.{Sequent, Rule, Hyp, Weaken, TruthRule, Absurd, Both, Left, Right, InLeft, InRight, Cases, Intro, Apply, NotIntro, NotApply, AllRule, Inst, SomeRule, Open, Refl, Subst, MemberRule, Beta, ExtSub, ExtFun, PropExt, PairRule, First, Second, UnitRule, name_of, sequent_of, to_show, assuming, over, at}

-- the premises, without a term
abbrev pub From : List Sequent → Option Term → List Sequent → Type 0
From premises with_term expected = (premises ≡ expected) × (with_term ≡ None)

-- s follows from the premises by the rule, with the term
abbrev pub Follows : List MapTy → Rule → List Sequent → Option Term → Sequent → Type 0
Follows maps Hyp ps t s = From ps t [] × In s.hyps s.concl
Follows maps Weaken ps t s = (Δ : List Term) × From ps t (record s { hyps = Δ } ∷ []) × All (In s.hyps) Δ
Follows maps TruthRule ps t s = From ps t [] × (s.concl ≡ Truth)
Follows maps Absurd ps t s = From ps t (to_show s Falsity ∷ [])
Follows maps Both ps t s = (φ : Term) × (ψ : Term) × From ps t (to_show s φ ∷ to_show s ψ ∷ []) × (s.concl ≡ And φ ψ)
Follows maps Left ps t s = (ψ : Term) × From ps t (to_show s (And s.concl ψ) ∷ [])
Follows maps Right ps t s = (φ : Term) × From ps t (to_show s (And φ s.concl) ∷ [])
Follows maps InLeft ps t s = (φ : Term) × (ψ : Term) × From ps t (to_show s φ ∷ []) × (s.concl ≡ Or φ ψ)
Follows maps InRight ps t s = (φ : Term) × (ψ : Term) × From ps t (to_show s ψ ∷ []) × (s.concl ≡ Or φ ψ)
Follows maps Cases ps t s = (φ : Term) × (ψ : Term) × From ps t (to_show s (Or φ ψ) ∷ assuming φ s ∷ assuming ψ s ∷ [])
Follows maps Intro ps t s = (φ : Term) × (ψ : Term) × From ps t (to_show (assuming φ s) ψ ∷ []) × (s.concl ≡ Implies φ ψ)
Follows maps Apply ps t s = (φ : Term) × From ps t (to_show s (Implies φ s.concl) ∷ to_show s φ ∷ [])
Follows maps NotIntro ps t s = (φ : Term) × From ps t (to_show (assuming φ s) Falsity ∷ []) × (s.concl ≡ Not φ)
Follows maps NotApply ps t s = (φ : Term) × From ps t (to_show s (Not φ) ∷ to_show s φ ∷ []) × (s.concl ≡ Falsity)
Follows maps AllRule ps t s = (T : Ty) × (φ : Term) × From ps t (to_show (over T s) φ ∷ []) × (s.concl ≡ Forall T φ)
Follows maps Inst ps t s =
    (T : Ty) × (φ : Term) × (u : Term) × (ps ≡ to_show s (Forall T φ) ∷ []) × (t ≡ Some u) × Typed maps s.context u T × (s.concl ≡ at u φ)
Follows maps SomeRule ps t s =
    (T : Ty) × (φ : Term) × (u : Term) × (ps ≡ to_show s (at u φ) ∷ []) × (t ≡ Some u) × Typed maps s.context u T × (s.concl ≡ Exists T φ)
Follows maps Open ps t s = (T : Ty) × (φ : Term) × From ps t (to_show s (Exists T φ) ∷ assuming φ (over T s) ∷ [])
Follows maps Refl ps t s = (u : Term) × From ps t [] × (s.concl ≡ Eq u u)
Follows maps Subst ps t s =
    (T : Ty) × (φ : Term) × (u : Term) × (v : Term) × (ps ≡ to_show s (Eq u v) ∷ to_show s (at u φ) ∷ []) × (t ≡ Some (Compr T φ)) ×
    Typed maps s.context u T × (s.concl ≡ at v φ)
Follows maps MemberRule ps t s = (T : Ty) × (φ : Term) × (u : Term) × From ps t [] × (s.concl ≡ Eq (Member u (Compr T φ)) (at u φ))
Follows maps Beta ps t s = (T : Ty) × (v : Term) × (u : Term) × From ps t [] × (s.concl ≡ Eq (Eval (Lam T v) u) (at u v))
Follows maps ExtSub ps t s =
    (T : Ty) × (u : Term) × (v : Term) × From ps t (to_show (over T s) (Eq (Member (Var 0) (lift 0 u)) (Member (Var 0) (lift 0 v))) ∷ []) ×
    Typed maps s.context u (Pow T) × (s.concl ≡ Eq u v)
Follows maps ExtFun ps t s =
    (T : Ty) × (U : Ty) × (u : Term) × (v : Term) × From ps t (to_show (over T s) (Eq (Eval (lift 0 u) (Var 0)) (Eval (lift 0 v) (Var 0))) ∷ []) ×
    Typed maps s.context u (Fun T U) × (s.concl ≡ Eq u v)
Follows maps PropExt ps t s =
    (φ : Term) × (ψ : Term) × From ps t (to_show (assuming φ s) ψ ∷ to_show (assuming ψ s) φ ∷ []) × (s.concl ≡ Eq φ ψ)
Follows maps PairRule ps t s = (u : Term) × From ps t [] × (s.concl ≡ Eq u (Pair (Fst u) (Snd u)))
Follows maps First ps t s = (u : Term) × (v : Term) × From ps t [] × (s.concl ≡ Eq (Fst (Pair u v)) u)
Follows maps Second ps t s = (u : Term) × (v : Term) × From ps t [] × (s.concl ≡ Eq (Snd (Pair u v)) v)
Follows maps UnitRule ps t s = (u : Term) × From ps t [] × Typed maps s.context u One × (s.concl ≡ Eq u Star)

-- hypotheses and conclusion are formulas, and the term has a type
abbrev pub IsTypedStep : List MapTy → Step → Type 0
IsTypedStep maps step =
    All (λ φ. Typed maps (sequent_of step).context φ Omega) step.hyps × Typed maps (sequent_of step).context step.concl Omega ×
    ((t : Term) → step.with_term ≡ Some t → (T : Ty) × Typed maps (sequent_of step).context t T)

-- the steps before number i that it names give it, by the rule that it names
abbrev pub IsStep : List MapTy → List Step → Step → Type 0
IsStep maps earlier step =
    (rule : Rule) × (premises : List Sequent) × (step.rule ≡ name_of rule) ×
    (map (slice_get (map sequent_of earlier)) step.from ≡ map Some premises) × Follows maps rule premises step.with_term (sequent_of step)

-- each step is typed and follows from earlier ones
abbrev pub IsDerivation : List MapTy → Derivation → Type 0
IsDerivation maps d =
    (before after : List Step) (step : Step) → d.steps ≡ before ++ (step ∷ after) → IsTypedStep maps step × IsStep maps before step

-- the first step that has no types, or else does not follow
abbrev pub IsDerivationFault : List MapTy → Derivation → Fault → Type 0
IsDerivationFault maps d fault =
    (before : List Step) × (step : Step) × (after : List Step) × (d.steps ≡ before ++ step ∷ after) ×
    IsDerivation maps (record { steps = before }) ×
    ((step_fault maps step ≡ Some fault) ⊎
    ((step_fault maps step ≡ None) × (IsStep maps before step → ⊥) × (fault ≡ BadStep (length before))))
