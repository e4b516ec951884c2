-- A functor has no failing instance, and an instance that is given fails.
use Rattle.std.proofs.Common.{◌≡◌, ℕ, ◌+◌, ◌<◌, Bool, true, false, not, length, eqb, refl, sym, ◌∙◌, ap, arith, Option, Some, None}
use Rattle.std.specs.List.{range_with_len}
use Rattle.std.specs.Option.{option_map}
use Rattle.std.proofs.lemmas.Bool.{eqb-true, eqb-false, eq-eqb, ne_eqb, not-true, not-false}
use Rattle.finite_lists.specs.First.{first, some_if}
use Rattle.finite_lists.proofs.DistinctLists.{In-range, In-range_from}
use Rattle.finite_lists.proofs.FirstAnswers.{first_none, first_none_each, some_if-false, first_some_each, first_same, option_map-first, option_map-some_if}
use Rattle.topos_model.specs.declared.fault.Fault.{Fault}
use Rattle.topos_model.specs.declared.fault.Fault.TheVariants.{NotFunctorial}
use Rattle.topos_model.specs.categories.Category.{Category, dom, cod, arrows, into, compose}
use Rattle.topos_model.specs.types.Types.{Presheaf}
use Rattle.topos_model.specs.Laws.{act, size, IsInto, AreComposable, IsFunctor}
use Rattle.topos_model.specs.Faults.{functoriality_fault}
use Rattle.topos_model.proofs.ArrowsInto.{In-into, In-into_from}
use Rattle.presheaf_core.specs.Functoriality.{instance_at, instance_from_pair, instance_from, failing_instance}

abbrev fails : Category → Presheaf → ℕ → ℕ → ℕ → Option Fault
fails k X g f x = some_if (not (eqb (act X f (act X g x)) (act X (compose k g f) x))) (NotFunctorial g f x)

-- where there is no failing instance, restriction along a composite is restriction along one arrow and then the other
pub no_fault_composes : (k : Category) (X : Presheaf) → functoriality_fault k X ≡ None → (c f g x : ℕ) → IsInto k c f → IsInto k (dom k f) g → x < size X c → act X g (act X f x) ≡ act X (compose k f g) x
unfolding functoriality_fault
no_fault_composes k X none c f g x i j low =
    let at_f = first_none_each (λ g. first (λ f. first (fails k X g f) (range_with_len 0 (size X (cod k g)))) (into k (dom k g))) (arrows k) f none (In-range 0 (length k.ends) f (omega arith) (omega (arith, i.0))) in
    let at_g = first_none_each (λ g. first (fails k X f g) (range_with_len 0 (size X (cod k f)))) (into k (dom k f)) g at_f (In-into k (dom k f) g j) in
    let at_x = first_none_each (fails k X f g) (range_with_len 0 (size X (cod k f))) x at_g (In-range 0 (size X (cod k f)) x (omega arith) (omega (arith, rw (sym i.1) at low))) in
    eqb-true _ _ (not-false _ (some_if-false _ _ at_x))

pub functor_has_no_fault : (k : Category) (P : Presheaf) → IsFunctor k P → functoriality_fault k P ≡ None
unfolding functoriality_fault
functor_has_no_fault k P laws =
    first_none _ (arrows k) (λ g i. first_none _ (into k (dom k g)) (λ f j. first_none _ (range_with_len 0 (size P (cod k g))) (λ x l.
    let low : g < length k.ends = let r = In-range_from 0 (length k.ends) g i in omega (arith, r.1) in
    let at : x < size P (cod k g) = let r = In-range_from 0 (size P (cod k g)) x l in omega (arith, r.1) in
    let e = laws.composite (cod k g) g f x (low, refl) (In-into_from k (dom k g) f j) at in
    no_fault (act P f (act P g x)) (act P (compose k g f) x) (NotFunctorial g f x) e)))
  where
    no_fault : (m n : ℕ) (fault : Fault) → m ≡ n → some_if (not (eqb m n)) fault ≡ None
    no_fault m n fault e = rw (eq-eqb m n e) refl

-- the fault of a failing instance
abbrev pub instance_fault : ℕ × ℕ × ℕ → Fault
instance_fault t = NotFunctorial t.0 t.1 t.2

pub fault-failing_instance : (k : Category) (P : Presheaf) → option_map instance_fault (failing_instance k P) ≡ functoriality_fault k P
unfolding functoriality_fault instance_at instance_from_pair instance_from failing_instance
fault-failing_instance k P =
    option_map-first instance_fault (instance_from k P) (arrows k)
    ∙ first_same _ _ (arrows k) (λ g i. option_map-first instance_fault (instance_from_pair k P g) (into k (dom k g))
    ∙ first_same _ _ (into k (dom k g)) (λ f j. option_map-first instance_fault (instance_at k P g f) (range_with_len 0 (size P (cod k g)))
    ∙ first_same _ _ (range_with_len 0 (size P (cod k g))) (λ x l. option_map-some_if instance_fault (not (eqb (act P f (act P g x)) (act P (compose k g f) x))) (g, f, x))))

pub instance_at-fails : (k : Category) (P : Presheaf) (g f x : ℕ) → (act P f (act P g x) ≡ act P (compose k g f) x → ⊥) → instance_at k P g f x ≡ Some (g, f, x)
unfolding instance_at
instance_at-fails k P g f x e = ap (λ b. some_if (not b) (g, f, x)) (ne_eqb _ _ e)

pub instance_at-holds : (k : Category) (P : Presheaf) (g f x : ℕ) → act P f (act P g x) ≡ act P (compose k g f) x → instance_at k P g f x ≡ None
unfolding instance_at
instance_at-holds k P g f x e = ap (λ b. some_if (not b) (g, f, x)) (eq-eqb _ _ e)

-- what a given fault says
pub record IsFailing (k : Category) (P : Presheaf) (g f x : ℕ) : Type 0 where
  pub composable : AreComposable k g f
  pub element : x < size P (cod k g)
  pub differs : act P f (act P g x) ≡ act P (compose k g f) x → ⊥

some_if-some : (b : Bool) (g f x g' f' x' : ℕ) → some_if b (NotFunctorial g f x) ≡ Some (NotFunctorial g' f' x') → (b ≡ true) × (g ≡ g') × (f ≡ f') × (x ≡ x')
some_if-some true g f x g' f' x' e = (refl, cc, cc, cc)
some_if-some false g f x g' f' x' e = cc

pub fault_fails : (k : Category) (P : Presheaf) (g f x : ℕ) → functoriality_fault k P ≡ Some (NotFunctorial g f x) → IsFailing k P g f x
unfolding functoriality_fault
fault_fails k P g f x some =
    let a = first_some_each _ (arrows k) (NotFunctorial g f x) some in
    let b = first_some_each _ (into k (dom k a.0)) (NotFunctorial g f x) a.2 in
    let c = first_some_each _ (range_with_len 0 (size P (cod k a.0))) (NotFunctorial g f x) b.2 in
    let same = some_if-some _ a.0 b.0 c.0 g f x c.2 in
    at a.0 b.0 c.0 (In-range_from 0 (length k.ends) a.0 a.1).1 (In-into_from k (dom k a.0) b.0 b.1) (In-range_from 0 (size P (cod k a.0)) c.0 c.1).1 same.0 same.1 same.2 same.3
  where
    at : (g' f' x' : ℕ) → g' < 0 + length k.ends → IsInto k (dom k g') f' → x' < 0 + size P (cod k g') →
        not (eqb (act P f' (act P g' x')) (act P (compose k g' f') x')) ≡ true → g' ≡ g → f' ≡ f → x' ≡ x → IsFailing k P g f x
    at g' f' x' p q r t eg ef ex =
        let low : g' < length k.ends = omega (arith, p) in
        let element : x' < size P (cod k g') = omega (arith, r) in
        rw (← eg, ← ef, ← ex) (record { composable = (low, q); element = element; differs = eqb-false _ _ (not-true _ t) })
