-- The type of each form of term from those of its parts, and its faults from theirs.
use Rattle.std.proofs.Common.{◌≡◌, ◌⊎◌, inl, inr, ℕ, Bool, true, false, List, ◌∷◌, cond, refl}
use Rattle.std.specs.Prelude.{Result, Ok, Err}
use Rattle.topos_model.specs.declared.ty.Ty.{Ty, Omega, Two, Pow, Fun}
use Rattle.topos_model.specs.declared.context.MapTy.{MapTy}
use Rattle.topos_model.specs.declared.term.Term.{Term, Pair, Fst, Snd, App, Eval, Lam, Compr, Eq, Member, Truth, Falsity, And, Or, Implies, Not, Forall, Exists, Unique}
use Rattle.topos_model.specs.types.SameType.{same_type}
use Rattle.topos_model.specs.formulas.Typing.{Typing, then, expect, formula, function, power, pair, ends_of, typed}
use Rattle.topos_model.proofs.TypingEquations.{typed-Pair, typed-Fst, typed-Snd, typed-App, typed-Eval, typed-Lam, typed-Compr, typed-Eq, typed-Member, typed-Truth, typed-Falsity, typed-And, typed-Or, typed-Implies, typed-Not, typed-Forall, typed-Exists, typed-Unique}
use Rattle.term_typing.specs.Inferring.{IsFaultOf, Infers, both_formulas}
use Rattle.topos_model.specs.declared.fault.Fault.TheVariants as fault
use Rattle.term_typing.specs.declared.fault.TypeFault.{TypeFault}
use Rattle.term_typing.specs.declared.fault.TypeFault.TheVariants.{Expected, NotAFunction, NotAPower, NotAPair, NoMemory}
use Rattle.term_typing.proofs.Typings.{part_fails}

-- where another type was needed, whatever comes next
unmet : (b : Bool) (V : Ty) (other next : Typing) (e : TypeFault) → IsFaultOf (cond b (Ok V) other) e → IsFaultOf (cond b next other) e
unmet false V other next e h = h
unmet true V other next (Expected S T) h = absurd (cc)
unmet true V other next (NotAFunction T) h = absurd (cc)
unmet true V other next (NotAPower T) h = absurd (cc)
unmet true V other next (NotAPair T) h = absurd (cc)
unmet true V other next NoMemory h = tt

met : (b : Bool) (V W : Ty) (S U : Ty) (next : Typing) → cond b (Ok V) (Err (fault.Expected S U)) ≡ Ok W → cond b next (Err (fault.Expected S U)) ≡ next
met true V W S U next h = refl
met false V W S U next h = absurd (cc)

pub unexpected : (S U V : Ty) (next : Typing) (e : TypeFault) → IsFaultOf (expect S U (Ok V)) e → IsFaultOf (expect S U next) e
unexpected S U V next e h = unmet (same_type S U) V (Err (fault.Expected S U)) next e h

pub as_expected : (S U V W : Ty) (next : Typing) → expect S U (Ok V) ≡ Ok W → expect S U next ≡ next
as_expected S U V W next h = met (same_type S U) V W S U next h

-- a fault of one of two parts
both_fail : (left right : Typing) (next : Ty → Ty → Typing) (e : TypeFault) → IsFaultOf (then left (λ _. right)) e → IsFaultOf (then left (λ T. then right (next T))) e
both_fail (Ok T) right next e h = part_fails right (next T) e h
both_fail (Err fault) right next e h = h

module _ (maps : List MapTy) (Γ : List Ty) where
  pub pair_fails : (t u : Term) (e : TypeFault) → IsFaultOf (then (typed maps Γ t) (λ _. typed maps Γ u)) e → IsFaultOf (typed maps Γ (Pair t u)) e
  pair_fails t u e h = rw (typed-Pair maps Γ t u) (both_fail (typed maps Γ t) (typed maps Γ u) (λ T U. Ok (Two T U)) e h)

  pub pair_typed : (t u : Term) (T U : Ty) (r : Result Ty TypeFault) → typed maps Γ t ≡ Ok T → typed maps Γ u ≡ Ok U → Infers (Ok (Two T U)) r → Infers (typed maps Γ (Pair t u)) r
  pair_typed t u T U r h k j = rw (typed-Pair maps Γ t u, h, k) j

  pub eval_fails : (t u : Term) (e : TypeFault) → IsFaultOf (then (typed maps Γ t) (λ _. typed maps Γ u)) e → IsFaultOf (typed maps Γ (Eval t u)) e
  eval_fails t u e h = rw (typed-Eval maps Γ t u) (both_fail (typed maps Γ t) (typed maps Γ u) (λ T U. function T (λ S V. expect S U (Ok V))) e h)

  pub eval_typed : (t u : Term) (T U : Ty) (r : Result Ty TypeFault) → typed maps Γ t ≡ Ok T → typed maps Γ u ≡ Ok U → Infers (function T (λ S V. expect S U (Ok V))) r → Infers (typed maps Γ (Eval t u)) r
  eval_typed t u T U r h k j = rw (typed-Eval maps Γ t u, h, k) j

  pub eq_fails : (t u : Term) (e : TypeFault) → IsFaultOf (then (typed maps Γ t) (λ _. typed maps Γ u)) e → IsFaultOf (typed maps Γ (Eq t u)) e
  eq_fails t u e h = rw (typed-Eq maps Γ t u) (both_fail (typed maps Γ t) (typed maps Γ u) (λ T U. expect T U (Ok Omega)) e h)

  pub eq_typed : (t u : Term) (T U : Ty) (r : Result Ty TypeFault) → typed maps Γ t ≡ Ok T → typed maps Γ u ≡ Ok U → Infers (expect T U (Ok Omega)) r → Infers (typed maps Γ (Eq t u)) r
  eq_typed t u T U r h k j = rw (typed-Eq maps Γ t u, h, k) j

  pub member_fails : (t u : Term) (e : TypeFault) → IsFaultOf (then (typed maps Γ t) (λ _. typed maps Γ u)) e → IsFaultOf (typed maps Γ (Member t u)) e
  member_fails t u e h = rw (typed-Member maps Γ t u) (both_fail (typed maps Γ t) (typed maps Γ u) (λ T U. power U (λ S. expect S T (Ok Omega))) e h)

  pub member_typed : (t u : Term) (T U : Ty) (r : Result Ty TypeFault) → typed maps Γ t ≡ Ok T → typed maps Γ u ≡ Ok U → Infers (power U (λ S. expect S T (Ok Omega))) r → Infers (typed maps Γ (Member t u)) r
  member_typed t u T U r h k j = rw (typed-Member maps Γ t u, h, k) j

  pub fst_fails : (t : Term) (e : TypeFault) → IsFaultOf (typed maps Γ t) e → IsFaultOf (typed maps Γ (Fst t)) e
  fst_fails t e h = rw (typed-Fst maps Γ t) (part_fails (typed maps Γ t) (λ T. pair T (λ S U. Ok S)) e h)

  pub fst_typed : (t : Term) (T : Ty) (r : Result Ty TypeFault) → typed maps Γ t ≡ Ok T → Infers (pair T (λ S U. Ok S)) r → Infers (typed maps Γ (Fst t)) r
  fst_typed t T r h j = rw (typed-Fst maps Γ t, h) j

  pub snd_fails : (t : Term) (e : TypeFault) → IsFaultOf (typed maps Γ t) e → IsFaultOf (typed maps Γ (Snd t)) e
  snd_fails t e h = rw (typed-Snd maps Γ t) (part_fails (typed maps Γ t) (λ T. pair T (λ S U. Ok U)) e h)

  pub snd_typed : (t : Term) (T : Ty) (r : Result Ty TypeFault) → typed maps Γ t ≡ Ok T → Infers (pair T (λ S U. Ok U)) r → Infers (typed maps Γ (Snd t)) r
  snd_typed t T r h j = rw (typed-Snd maps Γ t, h) j

  pub app_fails : (m : ℕ) (t : Term) (e : TypeFault) → IsFaultOf (typed maps Γ t) e → IsFaultOf (typed maps Γ (App m t)) e
  app_fails m t e h = rw (typed-App maps Γ m t) (part_fails (typed maps Γ t) (λ T. expect (ends_of maps m).dom T (Ok (ends_of maps m).cod)) e h)

  pub app_typed : (m : ℕ) (t : Term) (T : Ty) (r : Result Ty TypeFault) → typed maps Γ t ≡ Ok T → Infers (expect (ends_of maps m).dom T (Ok (ends_of maps m).cod)) r → Infers (typed maps Γ (App m t)) r
  app_typed m t T r h j = rw (typed-App maps Γ m t, h) j

  pub not_fails : (t : Term) (e : TypeFault) → IsFaultOf (typed maps Γ t) e → IsFaultOf (typed maps Γ (Not t)) e
  not_fails t e h = rw (typed-Not maps Γ t) (part_fails (typed maps Γ t) (λ T. expect Omega T (Ok Omega)) e h)

  pub not_typed : (t : Term) (T : Ty) (r : Result Ty TypeFault) → typed maps Γ t ≡ Ok T → Infers (expect Omega T (Ok Omega)) r → Infers (typed maps Γ (Not t)) r
  not_typed t T r h j = rw (typed-Not maps Γ t, h) j

  pub lam_fails : (S : Ty) (t : Term) (e : TypeFault) → IsFaultOf (typed maps (S ∷ Γ) t) e → IsFaultOf (typed maps Γ (Lam S t)) e
  lam_fails S t e h = rw (typed-Lam maps Γ S t) (part_fails (typed maps (S ∷ Γ) t) (λ U. Ok (Fun S U)) e h)

  pub lam_typed : (S : Ty) (t : Term) (T : Ty) → typed maps (S ∷ Γ) t ≡ Ok T → typed maps Γ (Lam S t) ≡ Ok (Fun S T)
  lam_typed S t T h = rw (typed-Lam maps Γ S t, h) refl

  pub compr_fails : (S : Ty) (t : Term) (e : TypeFault) → IsFaultOf (typed maps (S ∷ Γ) t) e → IsFaultOf (typed maps Γ (Compr S t)) e
  compr_fails S t e h = rw (typed-Compr maps Γ S t) (part_fails (typed maps (S ∷ Γ) t) (λ T. expect Omega T (Ok (Pow S))) e h)

  pub compr_unmet : (S : Ty) (t : Term) (T : Ty) (e : TypeFault) → typed maps (S ∷ Γ) t ≡ Ok T → IsFaultOf (expect Omega T (Ok Omega)) e → IsFaultOf (typed maps Γ (Compr S t)) e
  compr_unmet S t T e h k = rw (typed-Compr maps Γ S t, h) (unexpected Omega T Omega (Ok (Pow S)) e k)

  pub compr_typed : (S : Ty) (t : Term) (T U : Ty) → typed maps (S ∷ Γ) t ≡ Ok T → expect Omega T (Ok Omega) ≡ Ok U → typed maps Γ (Compr S t) ≡ Ok (Pow S)
  compr_typed S t T U h k = rw (typed-Compr maps Γ S t, h) (as_expected Omega T Omega U (Ok (Pow S)) k)

  -- one of the quantifiers
  abbrev pub IsQuantified : Term → Ty → Term → Type 0
  IsQuantified x S t = (x ≡ Forall S t) ⊎ ((x ≡ Exists S t) ⊎ (x ≡ Unique S t))

  typed_quantified : (x : Term) (S : Ty) (t : Term) → IsQuantified x S t → typed maps Γ x ≡ formula (typed maps (S ∷ Γ) t) (Ok Omega)
  typed_quantified x S t (inl q) = rw q (typed-Forall maps Γ S t)
  typed_quantified x S t (inr (inl q)) = rw q (typed-Exists maps Γ S t)
  typed_quantified x S t (inr (inr q)) = rw q (typed-Unique maps Γ S t)

  pub quantified_fails : (x : Term) (S : Ty) (t : Term) (e : TypeFault) → IsQuantified x S t → IsFaultOf (typed maps (S ∷ Γ) t) e → IsFaultOf (typed maps Γ x) e
  quantified_fails x S t e q h = rw (typed_quantified x S t q) (part_fails (typed maps (S ∷ Γ) t) (λ T. expect Omega T (Ok Omega)) e h)

  pub quantified_typed : (x : Term) (S : Ty) (t : Term) (T : Ty) (r : Result Ty TypeFault) → IsQuantified x S t → typed maps (S ∷ Γ) t ≡ Ok T → Infers (expect Omega T (Ok Omega)) r → Infers (typed maps Γ x) r
  quantified_typed x S t T r q h j = rw (typed_quantified x S t q, h) j

  -- one of the connectives of two formulas
  abbrev pub IsConnected : Term → Term → Term → Type 0
  IsConnected x t u = (x ≡ And t u) ⊎ ((x ≡ Or t u) ⊎ (x ≡ Implies t u))

  pub connected_typed : (x t u : Term) (r : Result Ty TypeFault) → IsConnected x t u → Infers (both_formulas (typed maps Γ t) (typed maps Γ u)) r → Infers (typed maps Γ x) r
  connected_typed x t u r (inl q) h = rw (q, typed-And maps Γ t u) h
  connected_typed x t u r (inr (inl q)) h = rw (q, typed-Or maps Γ t u) h
  connected_typed x t u r (inr (inr q)) h = rw (q, typed-Implies maps Γ t u) h

  pub constant_typed : (x : Term) → (x ≡ Truth) ⊎ (x ≡ Falsity) → typed maps Γ x ≡ Ok Omega
  constant_typed x (inl q) = rw q (typed-Truth maps Γ)
  constant_typed x (inr q) = rw q (typed-Falsity maps Γ)
