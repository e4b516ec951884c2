-- Tests over the arrows into an object, as facts about each arrow.
use Rattle.std.proofs.Common.{◌≡◌, ℕ, zero, suc, ◌+◌, ◌<◌, ◌≤◌, Bool, true, false, cond, ◌&&◌, ◌||◌, not, ◌⊎◌, inl, inr, List, ◌∷◌, length, filter, refl, subst, arith, eqb}
use Rattle.std.specs.List.{list_all, range_with_len}
use Rattle.std.proofs.lemmas.Bool.{eqb-true, eq-eqb}
use Rattle.topos_model.specs.categories.Category.{Category, into, cod}

pub both_true : (a b : Bool) → (a && b) ≡ true → (a ≡ true) × (b ≡ true)
both_true true b h = (refl, h)
both_true false b h = (h, absurd (cc))

pub true_both : (a b : Bool) → a ≡ true → b ≡ true → (a && b) ≡ true
true_both a b h k = rw h k

pub modus : (a b : Bool) → (not a || b) ≡ true → a ≡ true → b ≡ true
modus true b h k = h
modus false b h k = cc

pub assume : (a b : Bool) → (a ≡ true → b ≡ true) → (not a || b) ≡ true
assume true b h = h refl
assume false b h = refl

-- what passes in a filtered list, at its head and after it
kept_head : (b : Bool) (p : ℕ → Bool) (x : ℕ) (rest : List ℕ) → list_all p (cond b (x ∷ rest) rest) ≡ true → b ≡ true → p x ≡ true
kept_head true p x rest h e = (both_true _ _ h).0
kept_head false p x rest h e = cc

kept_rest : (b : Bool) (p : ℕ → Bool) (x : ℕ) (rest : List ℕ) → list_all p (cond b (x ∷ rest) rest) ≡ true → list_all p rest ≡ true
kept_rest true p x rest h = (both_true _ _ h).1
kept_rest false p x rest h = h

kept : (b : Bool) (p : ℕ → Bool) (x : ℕ) (rest : List ℕ) → (b ≡ true → p x ≡ true) → list_all p rest ≡ true → list_all p (cond b (x ∷ rest) rest) ≡ true
kept true p x rest h k = true_both _ _ (h refl) k
kept false p x rest h k = k

pub first_or_later : (a i : ℕ) → a ≤ i → (a ≡ i) ⊎ (a + 1 ≤ i)
first_or_later a i h = grind arith

each_of_range : (q p : ℕ → Bool) (a n : ℕ) → list_all p (filter q (range_with_len a n)) ≡ true →
    (i : ℕ) → a ≤ i → i < a + n → q i ≡ true → p i ≡ true
each_of_range q p a zero h i low high e = absurd (omega arith)
each_of_range q p a (suc n) h i low high e =
    elim (first_or_later a i low) [
      | inl same ↦ subst (λ j. p j ≡ true) same (kept_head (q a) p a _ h (rw same e))
      | inr above ↦ each_of_range q p (a + 1) n (kept_rest (q a) p a _ h) i above (omega arith) e
    ]

range_of_each : (q p : ℕ → Bool) (a n : ℕ) → ((i : ℕ) → a ≤ i → i < a + n → q i ≡ true → p i ≡ true) →
    list_all p (filter q (range_with_len a n)) ≡ true
range_of_each q p a zero h = refl
range_of_each q p a (suc n) h =
    kept (q a) p a _ (h a (omega arith) (omega arith)) (range_of_each q p (a + 1) n (λ i low high e. h i (omega arith) (omega arith) e))

module _ (k : Category) where
  abbrev pub IsInto : ℕ → ℕ → Type 0
  IsInto c f = (f < length k.ends) × (cod k f ≡ c)

  pub each_into : (p : ℕ → Bool) (c : ℕ) → list_all p (into k c) ≡ true → (f : ℕ) → IsInto c f → p f ≡ true
  unfolding into
  each_into p c h f (low, e) = each_of_range (λ f. eqb (cod k f) c) p 0 (length k.ends) h f (omega arith) (omega arith) (eq-eqb _ _ e)

  pub into_each : (p : ℕ → Bool) (c : ℕ) → ((f : ℕ) → IsInto c f → p f ≡ true) → list_all p (into k c) ≡ true
  unfolding into
  into_each p c h = range_of_each (λ f. eqb (cod k f) c) p 0 (length k.ends) (λ f low high e. h f (omega arith, eqb-true _ _ e))
