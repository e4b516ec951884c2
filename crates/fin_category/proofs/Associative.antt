-- The first failing triple against the law: no fault is associativity, and a fault is an instance.
use Rattle.std.proofs.Common.{◌≡◌, ℕ, ◌<◌, Bool, true, false, not, eqb, Some, None, length, refl, ap, ◌∙◌}
use Rattle.std.proofs.lemmas.Bool.{eqb-true, eqb-false, eq-eqb, ne_eqb, not-false, not-true}
use Rattle.finite_lists.specs.First.{some_if}
use Rattle.finite_lists.proofs.FirstAnswers.{first_none, first_none_each, some_if-false, first_some_each, first_same, option_map-first, option_map-some_if}
use Rattle.std.specs.Option.{option_map}
use Rattle.topos_model.specs.declared.fault.Fault.{Fault}
use Rattle.topos_model.specs.declared.fault.Fault.TheVariants.{NotAssociative}
use Rattle.topos_model.specs.categories.Category.{Category, dom, cod, compose, into, arrows}
use Rattle.topos_model.specs.Laws.{IsInto, AreComposable, IsCategory}
use Rattle.topos_model.specs.Faults.{associativity_fault}
use Rattle.fin_category.specs.Associativity.{triple_at, triple_from_pair, triple_from, failing_triple}
use Rattle.topos_model.proofs.ArrowsInto.{In-into, In-into_from, In-arrows, In-arrows_from}

abbrev pub Associates : Category → ℕ → ℕ → ℕ → Type 0
Associates k h g f = compose k h (compose k g f) ≡ compose k (compose k h g) f

-- the fault of a failing triple
abbrev pub triple_fault : ℕ × ℕ × ℕ → Fault
triple_fault t = NotAssociative t.0 t.1 t.2

pub fault-failing_triple : (k : Category) → option_map triple_fault (failing_triple k) ≡ associativity_fault k
unfolding associativity_fault triple_at triple_from_pair triple_from failing_triple
fault-failing_triple k =
    option_map-first triple_fault (triple_from k) (arrows k)
    ∙ first_same _ _ (arrows k) (λ h i. option_map-first triple_fault (triple_from_pair k h) (into k (dom k h))
    ∙ first_same _ _ (into k (dom k h)) (λ g j. option_map-first triple_fault (triple_at k h g) (into k (dom k g))
    ∙ first_same _ _ (into k (dom k g)) (λ f l. option_map-some_if triple_fault (not (eqb (compose k h (compose k g f)) (compose k (compose k h g) f))) (h, g, f))))

pub associative_none : (k : Category) → IsCategory k → associativity_fault k ≡ None
unfolding associativity_fault
associative_none k law =
    first_none _ (arrows k) (λ h i. first_none _ (into k (dom k h)) (λ g j. first_none _ (into k (dom k g)) (λ f l.
    ap (λ b. some_if (not b) (NotAssociative h g f))
    (eq-eqb _ _ (law.associative (cod k h) h g f (In-arrows_from k h i, refl) (In-into_from k (dom k h) g j) (In-into_from k (dom k g) f l))))))

pub none_associates : (k : Category) → associativity_fault k ≡ None → (h g f : ℕ) → h < length k.ends → IsInto k (dom k h) g → IsInto k (dom k g) f → Associates k h g f
unfolding associativity_fault
none_associates k none h g f i j l =
    eqb-true _ _ (not-false _ (some_if-false _ (NotAssociative h g f)
    (first_none_each _ (into k (dom k g)) f (first_none_each _ (into k (dom k h)) g (first_none_each _ (arrows k) h none (In-arrows k h i)) (In-into k (dom k h) g j)) (In-into k (dom k g) f l))))

-- what a given fault says
pub record IsFailing (k : Category) (h g f : ℕ) : Type 0 where
  pub third : AreComposable k h g
  pub second : AreComposable k g f
  pub differs : Associates k h g f → ⊥

some_if-some : (b : Bool) (h g f h' g' f' : ℕ) → some_if b (NotAssociative h g f) ≡ Some (NotAssociative h' g' f') → (b ≡ true) × (h ≡ h') × (g ≡ g') × (f ≡ f')
some_if-some true h g f h' g' f' e = (refl, cc, cc, cc)
some_if-some false h g f h' g' f' e = cc

pub fault_fails : (k : Category) (h g f : ℕ) → associativity_fault k ≡ Some (NotAssociative h g f) → IsFailing k h g f
unfolding associativity_fault
fault_fails k h g f some =
    let a = first_some_each _ (arrows k) (NotAssociative h g f) some in
    let b = first_some_each _ (into k (dom k a.0)) (NotAssociative h g f) a.2 in
    let c = first_some_each _ (into k (dom k b.0)) (NotAssociative h g f) b.2 in
    let same = some_if-some _ a.0 b.0 c.0 h g f c.2 in
    at a.0 b.0 c.0 (In-arrows_from k a.0 a.1) (In-into_from k (dom k a.0) b.0 b.1) (In-into_from k (dom k b.0) c.0 c.1) same.0 same.1 same.2 same.3
  where
    at : (h' g' f' : ℕ) → h' < length k.ends → IsInto k (dom k h') g' → IsInto k (dom k g') f' →
        not (eqb (compose k h' (compose k g' f')) (compose k (compose k h' g') f')) ≡ true → h' ≡ h → g' ≡ g → f' ≡ f → IsFailing k h g f
    at h' g' f' p q r t eh eg ef =
        rw (← eh, ← eg, ← ef) (record { third = (p, q); second = (q.0, r); differs = eqb-false _ _ (not-true _ t) })

pub triple_at-fails : (k : Category) (h g f : ℕ) → (Associates k h g f → ⊥) → triple_at k h g f ≡ Some (h, g, f)
unfolding triple_at
triple_at-fails k h g f e = ap (λ b. some_if (not b) (h, g, f)) (ne_eqb _ _ e)

pub triple_at-holds : (k : Category) (h g f : ℕ) → Associates k h g f → triple_at k h g f ≡ None
unfolding triple_at
triple_at-holds k h g f e = ap (λ b. some_if (not b) (h, g, f)) (eq-eqb _ _ e)
