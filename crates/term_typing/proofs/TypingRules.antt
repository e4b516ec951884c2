-- Typing finds a type exactly where the rules give it.
use Rattle.std.proofs.Common.{◌≡◌, Bool, true, false, cond, List, ◌∷◌, refl, sym, ap, ◌∙◌}
use Rattle.std.specs.Prelude.{Ok, Err}
use Rattle.topos_model.specs.declared.ty.Ty.{Ty, out-Ty, roll-out-Ty, Omega, Two, Pow, Fun}
use Rattle.topos_model.specs.declared.ty.Ty.TheOpen.{Ty-F, Two as IsTwo, Pow as IsPow, Fun as IsFun}
use Rattle.topos_model.specs.declared.ty.Ty.TheViews.{roll-Ty}
use Rattle.topos_model.specs.declared.ty.Ty.TheVariants.{rolls-Two, rolls-Pow, rolls-Fun}
use Rattle.topos_model.specs.declared.term.Term.{Term, Var, Star, Pair', Fst', Snd', App', Eval', Lam', Compr', Eq', Member', Truth, Falsity, And', Or', Implies', Not', Forall', Exists', Unique', more_of-Term as only, end_of-Term as end}
use Rattle.topos_model.specs.declared.context.MapTy.{MapTy}
use Rattle.topos_model.specs.declared.fault.Fault.{Fault}
use Rattle.topos_model.specs.declared.fault.Fault.TheVariants.{NotAFunction, NotAPower, NotAPair}
use Rattle.topos_model.specs.types.SameType.{same_type}
use Rattle.topos_model.specs.types.SameTypeLaws.{same_types_are_equal, same_as_itself}
use Rattle.topos_model.specs.formulas.Typing.{Typing, then, expect, function, power, pair, ends_of, typed, Typed}
use Rattle.term_typing.proofs.Sorts.{pair_two, power_pow, function_fun}

-- what typing went through
then_ok : (typing : Typing) (next : Ty → Typing) (U : Ty) → then typing next ≡ Ok U → (T : Ty) × (typing ≡ Ok T) × (next T ≡ Ok U)
then_ok (Ok T) next U h = (T, refl, h)
then_ok (Err fault) next U h = absurd (cc)

met : (b : Bool) (S T U : Ty) (next : Typing) (fault : Fault) → (b ≡ true → S ≡ T) → cond b next (Err fault) ≡ Ok U → (S ≡ T) × (next ≡ Ok U)
met true S T U next fault same h = (same refl, h)
met false S T U next fault same h = absurd (cc)

expect_ok : (S T U : Ty) (next : Typing) → expect S T next ≡ Ok U → (S ≡ T) × (next ≡ Ok U)
expect_ok S T U next h = met (same_type S T) S T U next _ (same_types_are_equal S T) h

expect_itself : (T : Ty) (next : Typing) → expect T T next ≡ next
expect_itself T next = rw (same_as_itself T) refl

pair_ok : (T U : Ty) (next : Ty → Ty → Typing) → pair T next ≡ Ok U → (S : Ty) × (V : Ty) × (T ≡ Two S V) × (next S V ≡ Ok U)
unfolding out-Ty
pair_ok T U next h = at (out-Ty T) (roll-out-Ty T) h
  where
    at : (d : Ty-F Ty) → roll-Ty d ≡ T → ◌≡◌ {A = Typing} (elim d [ IsTwo S V ↦ next S V | _ ↦ Err (NotAPair T) ]) (Ok U) → (S : Ty) × (V : Ty) × (T ≡ Two S V) × (next S V ≡ Ok U)
    at (IsTwo S V) e k = (S, V, sym e ∙ rolls-Two S V, k)
    at _ e k = absurd (cc)

power_ok : (T U : Ty) (next : Ty → Typing) → power T next ≡ Ok U → (S : Ty) × (T ≡ Pow S) × (next S ≡ Ok U)
unfolding out-Ty
power_ok T U next h = at (out-Ty T) (roll-out-Ty T) h
  where
    at : (d : Ty-F Ty) → roll-Ty d ≡ T → ◌≡◌ {A = Typing} (elim d [ IsPow S ↦ next S | _ ↦ Err (NotAPower T) ]) (Ok U) → (S : Ty) × (T ≡ Pow S) × (next S ≡ Ok U)
    at (IsPow S) e k = (S, sym e ∙ rolls-Pow S, k)
    at _ e k = absurd (cc)

function_ok : (T U : Ty) (next : Ty → Ty → Typing) → function T next ≡ Ok U → (S : Ty) × (V : Ty) × (T ≡ Fun S V) × (next S V ≡ Ok U)
unfolding out-Ty
function_ok T U next h = at (out-Ty T) (roll-out-Ty T) h
  where
    at : (d : Ty-F Ty) → roll-Ty d ≡ T → ◌≡◌ {A = Typing} (elim d [ IsFun S V ↦ next S V | _ ↦ Err (NotAFunction T) ]) (Ok U) → (S : Ty) × (V : Ty) × (T ≡ Fun S V) × (next S V ≡ Ok U)
    at (IsFun S V) e k = (S, V, sym e ∙ rolls-Fun S V, k)
    at _ e k = absurd (cc)

is_ok : (T U : Ty) → ◌≡◌ {A = Typing} (Ok T) (Ok U) → U ≡ T
is_ok T U h = cc

module _ (maps : List MapTy) where
  pub typed_by_rules : (Γ : List Ty) (t : Term) (U : Ty) → typed maps Γ t ≡ Ok U → Typed maps Γ t U
  unfolding typed
  typed_by_rules Γ (Var k) U h = is_ok _ _ h
  typed_by_rules Γ Star U h = is_ok _ _ h
  typed_by_rules Γ (Pair' _ (only t end) _ (only u end)) U h =
      let p = then_ok (typed maps Γ t) (λ T. then (typed maps Γ u) (λ V. Ok (Two T V))) U h in
      let q = then_ok (typed maps Γ u) (λ V. Ok (Two p.0 V)) U p.2 in
      (p.0, q.0, typed_by_rules Γ t p.0 p.1, typed_by_rules Γ u q.0 q.1, is_ok _ _ q.2)
  typed_by_rules Γ (Fst' _ (only t end)) U h =
      let p = then_ok (typed maps Γ t) (λ T. pair T (λ S V. Ok S)) U h in
      let q = pair_ok p.0 U (λ S V. Ok S) p.2 in
      (q.1, typed_by_rules Γ t (Two U q.1) (p.1 ∙ ap Ok (q.2 ∙ ap (λ S. Two S q.1) (sym (is_ok _ _ q.3)))))
  typed_by_rules Γ (Snd' _ (only t end)) U h =
      let p = then_ok (typed maps Γ t) (λ T. pair T (λ S V. Ok V)) U h in
      let q = pair_ok p.0 U (λ S V. Ok V) p.2 in
      (q.0, typed_by_rules Γ t (Two q.0 U) (p.1 ∙ ap Ok (q.2 ∙ ap (Two q.0) (sym (is_ok _ _ q.3)))))
  typed_by_rules Γ (App' m _ (only t end)) U h =
      let p = then_ok (typed maps Γ t) (λ T. expect (ends_of maps m).dom T (Ok (ends_of maps m).cod)) U h in
      let q = expect_ok (ends_of maps m).dom p.0 U (Ok (ends_of maps m).cod) p.2 in
      (typed_by_rules Γ t (ends_of maps m).dom (p.1 ∙ ap Ok (sym q.0)), is_ok _ _ q.1)
  typed_by_rules Γ (Eval' _ (only t end) _ (only u end)) U h =
      let p = then_ok (typed maps Γ t) (λ T. then (typed maps Γ u) (λ V. function T (λ S W. expect S V (Ok W)))) U h in
      let q = then_ok (typed maps Γ u) (λ V. function p.0 (λ S W. expect S V (Ok W))) U p.2 in
      let r = function_ok p.0 U (λ S W. expect S q.0 (Ok W)) q.2 in
      let s = expect_ok r.0 q.0 U (Ok r.1) r.3 in
      (r.0, typed_by_rules Γ t (Fun r.0 U) (p.1 ∙ ap Ok (r.2 ∙ ap (Fun r.0) (sym (is_ok _ _ s.1)))), typed_by_rules Γ u r.0 (q.1 ∙ ap Ok (sym s.0)))
  typed_by_rules Γ (Lam' S _ (only t end)) U h =
      let p = then_ok (typed maps (S ∷ Γ) t) (λ T. Ok (Fun S T)) U h in
      (p.0, typed_by_rules (S ∷ Γ) t p.0 p.1, is_ok _ _ p.2)
  typed_by_rules Γ (Compr' S _ (only φ end)) U h =
      let p = then_ok (typed maps (S ∷ Γ) φ) (λ T. expect Omega T (Ok (Pow S))) U h in
      let q = expect_ok Omega p.0 U (Ok (Pow S)) p.2 in
      (typed_by_rules (S ∷ Γ) φ Omega (p.1 ∙ ap Ok (sym q.0)), is_ok _ _ q.1)
  typed_by_rules Γ (Eq' _ (only t end) _ (only u end)) U h =
      let p = then_ok (typed maps Γ t) (λ T. then (typed maps Γ u) (λ V. expect T V (Ok Omega))) U h in
      let q = then_ok (typed maps Γ u) (λ V. expect p.0 V (Ok Omega)) U p.2 in
      let r = expect_ok p.0 q.0 U (Ok Omega) q.2 in
      (p.0, typed_by_rules Γ t p.0 p.1, typed_by_rules Γ u p.0 (q.1 ∙ ap Ok (sym r.0)), is_ok _ _ r.1)
  typed_by_rules Γ (Member' _ (only t end) _ (only u end)) U h =
      let p = then_ok (typed maps Γ t) (λ T. then (typed maps Γ u) (λ V. power V (λ S. expect S T (Ok Omega)))) U h in
      let q = then_ok (typed maps Γ u) (λ V. power V (λ S. expect S p.0 (Ok Omega))) U p.2 in
      let r = power_ok q.0 U (λ S. expect S p.0 (Ok Omega)) q.2 in
      let s = expect_ok r.0 p.0 U (Ok Omega) r.2 in
      (p.0, typed_by_rules Γ t p.0 p.1, typed_by_rules Γ u (Pow p.0) (q.1 ∙ ap Ok (r.1 ∙ ap Pow s.0)), is_ok _ _ s.1)
  typed_by_rules Γ Truth U h = is_ok _ _ h
  typed_by_rules Γ Falsity U h = is_ok _ _ h
  typed_by_rules Γ (And' _ (only φ end) _ (only ψ end)) U h =
      let p = then_ok (typed maps Γ φ) (λ T. expect Omega T (then (typed maps Γ ψ) (λ V. expect Omega V (Ok Omega)))) U h in
      let q = expect_ok Omega p.0 U (then (typed maps Γ ψ) (λ V. expect Omega V (Ok Omega))) p.2 in
      let r = then_ok (typed maps Γ ψ) (λ V. expect Omega V (Ok Omega)) U q.1 in
      let s = expect_ok Omega r.0 U (Ok Omega) r.2 in
      (typed_by_rules Γ φ Omega (p.1 ∙ ap Ok (sym q.0)), typed_by_rules Γ ψ Omega (r.1 ∙ ap Ok (sym s.0)), is_ok _ _ s.1)
  typed_by_rules Γ (Or' _ (only φ end) _ (only ψ end)) U h =
      let p = then_ok (typed maps Γ φ) (λ T. expect Omega T (then (typed maps Γ ψ) (λ V. expect Omega V (Ok Omega)))) U h in
      let q = expect_ok Omega p.0 U (then (typed maps Γ ψ) (λ V. expect Omega V (Ok Omega))) p.2 in
      let r = then_ok (typed maps Γ ψ) (λ V. expect Omega V (Ok Omega)) U q.1 in
      let s = expect_ok Omega r.0 U (Ok Omega) r.2 in
      (typed_by_rules Γ φ Omega (p.1 ∙ ap Ok (sym q.0)), typed_by_rules Γ ψ Omega (r.1 ∙ ap Ok (sym s.0)), is_ok _ _ s.1)
  typed_by_rules Γ (Implies' _ (only φ end) _ (only ψ end)) U h =
      let p = then_ok (typed maps Γ φ) (λ T. expect Omega T (then (typed maps Γ ψ) (λ V. expect Omega V (Ok Omega)))) U h in
      let q = expect_ok Omega p.0 U (then (typed maps Γ ψ) (λ V. expect Omega V (Ok Omega))) p.2 in
      let r = then_ok (typed maps Γ ψ) (λ V. expect Omega V (Ok Omega)) U q.1 in
      let s = expect_ok Omega r.0 U (Ok Omega) r.2 in
      (typed_by_rules Γ φ Omega (p.1 ∙ ap Ok (sym q.0)), typed_by_rules Γ ψ Omega (r.1 ∙ ap Ok (sym s.0)), is_ok _ _ s.1)
  typed_by_rules Γ (Not' _ (only φ end)) U h =
      let p = then_ok (typed maps Γ φ) (λ T. expect Omega T (Ok Omega)) U h in
      let q = expect_ok Omega p.0 U (Ok Omega) p.2 in
      (typed_by_rules Γ φ Omega (p.1 ∙ ap Ok (sym q.0)), is_ok _ _ q.1)
  typed_by_rules Γ (Forall' S _ (only φ end)) U h =
      let p = then_ok (typed maps (S ∷ Γ) φ) (λ T. expect Omega T (Ok Omega)) U h in
      let q = expect_ok Omega p.0 U (Ok Omega) p.2 in
      (typed_by_rules (S ∷ Γ) φ Omega (p.1 ∙ ap Ok (sym q.0)), is_ok _ _ q.1)
  typed_by_rules Γ (Exists' S _ (only φ end)) U h =
      let p = then_ok (typed maps (S ∷ Γ) φ) (λ T. expect Omega T (Ok Omega)) U h in
      let q = expect_ok Omega p.0 U (Ok Omega) p.2 in
      (typed_by_rules (S ∷ Γ) φ Omega (p.1 ∙ ap Ok (sym q.0)), is_ok _ _ q.1)
  typed_by_rules Γ (Unique' S _ (only φ end)) U h =
      let p = then_ok (typed maps (S ∷ Γ) φ) (λ T. expect Omega T (Ok Omega)) U h in
      let q = expect_ok Omega p.0 U (Ok Omega) p.2 in
      (typed_by_rules (S ∷ Γ) φ Omega (p.1 ∙ ap Ok (sym q.0)), is_ok _ _ q.1)

  pub rules_are_typed : (Γ : List Ty) (t : Term) (U : Ty) → Typed maps Γ t U → typed maps Γ t ≡ Ok U
  unfolding typed
  rules_are_typed Γ (Var k) U h = ap Ok (sym h)
  rules_are_typed Γ Star U h = ap Ok (sym h)
  rules_are_typed Γ (Pair' _ (only t end) _ (only u end)) U (S, T, a, b, e) = rw (rules_are_typed Γ t S a, rules_are_typed Γ u T b) (ap Ok (sym e))
  rules_are_typed Γ (Fst' _ (only t end)) U (T, a) = rw (rules_are_typed Γ t (Two U T) a) (pair_two U T (λ S V. Ok S))
  rules_are_typed Γ (Snd' _ (only t end)) U (S, a) = rw (rules_are_typed Γ t (Two S U) a) (pair_two S U (λ S V. Ok V))
  rules_are_typed Γ (App' m _ (only t end)) U (a, e) =
      rw (rules_are_typed Γ t (ends_of maps m).dom a) (expect_itself (ends_of maps m).dom (Ok (ends_of maps m).cod) ∙ ap Ok (sym e))
  rules_are_typed Γ (Eval' _ (only t end) _ (only u end)) U (S, a, b) =
      rw (rules_are_typed Γ t (Fun S U) a, rules_are_typed Γ u S b) (function_fun S U (λ R V. expect R S (Ok V)) ∙ expect_itself S (Ok U))
  rules_are_typed Γ (Lam' S _ (only t end)) U (T, a, e) = rw (rules_are_typed (S ∷ Γ) t T a) (ap Ok (sym e))
  rules_are_typed Γ (Compr' S _ (only φ end)) U (a, e) = rw (rules_are_typed (S ∷ Γ) φ Omega a) (expect_itself Omega (Ok (Pow S)) ∙ ap Ok (sym e))
  rules_are_typed Γ (Eq' _ (only t end) _ (only u end)) U (T, a, b, e) = rw (rules_are_typed Γ t T a, rules_are_typed Γ u T b) (expect_itself T (Ok Omega) ∙ ap Ok (sym e))
  rules_are_typed Γ (Member' _ (only t end) _ (only u end)) U (T, a, b, e) =
      rw (rules_are_typed Γ t T a, rules_are_typed Γ u (Pow T) b) (power_pow T (λ S. expect S T (Ok Omega)) ∙ expect_itself T (Ok Omega) ∙ ap Ok (sym e))
  rules_are_typed Γ Truth U h = ap Ok (sym h)
  rules_are_typed Γ Falsity U h = ap Ok (sym h)
  rules_are_typed Γ (And' _ (only φ end) _ (only ψ end)) U (a, b, e) =
      rw (rules_are_typed Γ φ Omega a) (expect_itself Omega (then (typed maps Γ ψ) (λ V. expect Omega V (Ok Omega))) ∙ ap (λ r. then r (λ V. expect Omega V (Ok Omega))) (rules_are_typed Γ ψ Omega b) ∙ expect_itself Omega (Ok Omega) ∙ ap Ok (sym e))
  rules_are_typed Γ (Or' _ (only φ end) _ (only ψ end)) U (a, b, e) =
      rw (rules_are_typed Γ φ Omega a) (expect_itself Omega (then (typed maps Γ ψ) (λ V. expect Omega V (Ok Omega))) ∙ ap (λ r. then r (λ V. expect Omega V (Ok Omega))) (rules_are_typed Γ ψ Omega b) ∙ expect_itself Omega (Ok Omega) ∙ ap Ok (sym e))
  rules_are_typed Γ (Implies' _ (only φ end) _ (only ψ end)) U (a, b, e) =
      rw (rules_are_typed Γ φ Omega a) (expect_itself Omega (then (typed maps Γ ψ) (λ V. expect Omega V (Ok Omega))) ∙ ap (λ r. then r (λ V. expect Omega V (Ok Omega))) (rules_are_typed Γ ψ Omega b) ∙ expect_itself Omega (Ok Omega) ∙ ap Ok (sym e))
  rules_are_typed Γ (Not' _ (only φ end)) U (a, e) = rw (rules_are_typed Γ φ Omega a) (expect_itself Omega (Ok Omega) ∙ ap Ok (sym e))
  rules_are_typed Γ (Forall' S _ (only φ end)) U (a, e) = rw (rules_are_typed (S ∷ Γ) φ Omega a) (expect_itself Omega (Ok Omega) ∙ ap Ok (sym e))
  rules_are_typed Γ (Exists' S _ (only φ end)) U (a, e) = rw (rules_are_typed (S ∷ Γ) φ Omega a) (expect_itself Omega (Ok Omega) ∙ ap Ok (sym e))
  rules_are_typed Γ (Unique' S _ (only φ end)) U (a, e) = rw (rules_are_typed (S ∷ Γ) φ Omega a) (expect_itself Omega (Ok Omega) ∙ ap Ok (sym e))
