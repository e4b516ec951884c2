-- The filling pair is lexicographically the first of all pairs that fill.
use Rattle.std.proofs.Common.{◌≡◌, ℕ, ◌<◌, ◌≤◌, Bool, true, false, ◌⊎◌, inl, inr, List, [], ◌∷◌, Some, refl, sym, ap, ◌∙◌, arith}
use Rattle.std.proofs.lemmas.Bool.{and_from, eq-eqb, lt-ltb, le-leb}
use Rattle.finite_lists.specs.Members.{In}
use Rattle.finite_lists.specs.Rising.{Rising}
use Rattle.finite_lists.specs.First.{first, or_else, some_if}
use Rattle.topos_model.specs.categories.Category.{Category}
use Rattle.topos_model.specs.categories.Listed.{composable}
use Rattle.topos_model.specs.categories.Filling.{fills, filling_pair, IsFilling, FillingPairsAreFirst}
use Rattle.fin_category.proofs.Composable.{In-composable, PairBelow, composable_rises}
use Rattle.presheaf_core.proofs.FillingPairs.{filling_is}

-- the first member of a rising list that passes a test is the lowest that does
first_lowest : {A : Type 0} (below : A → A → Type 0) (test : A → Bool) (xs : List A) (q : A) → Rising below xs → In xs q → test q ≡ true →
    (p : A) × (first (λ a. some_if (test a) a) xs ≡ Some p) × ((p ≡ q) ⊎ below p q)
first_lowest below test [] q rising i t = absurd i
first_lowest {A} below test (x ∷ rest) q rising i t = at (test x) refl i (first_lowest below test rest q rising.1)
  where
    at : (b : Bool) → test x ≡ b → In (x ∷ rest) q → (In rest q → test q ≡ true → (p : A) × (first (λ a. some_if (test a) a) rest ≡ Some p) × ((p ≡ q) ⊎ below p q)) →
        (p : A) × (or_else (some_if b x) (first (λ a. some_if (test a) a) rest) ≡ Some p) × ((p ≡ q) ⊎ below p q)
    at true e (inl same) later = (x, refl, inl same)
    at true e (inr j) later = (x, refl, inr (rising.0 q j))
    at false e (inl same) later = let both : true ≡ false = sym t ∙ ap test (sym same) ∙ e in cc
    at false e (inr j) later = later j t

is_fills : (k : Category) (f : ℕ) (q : ℕ × ℕ) → IsFilling k f q → fills k f q.0 q.1 ≡ true
unfolding fills
is_fills k f q is = and_from _ _ (and_from _ _ (and_from _ _ (and_from _ _ (le-leb _ _ is.1) (lt-ltb _ _ is.2)) (le-leb _ _ is.3)) (lt-ltb _ _ is.4)) (eq-eqb _ _ is.5)

pub filling_pairs_first : FillingPairsAreFirst
unfolding filling_pair
filling_pairs_first k f = (λ p e. filling_is k f p e, lowest)
  where
    order : (p q : ℕ × ℕ) → (p ≡ q) ⊎ PairBelow p q → (p.0 < q.0) ⊎ ((p.0 ≡ q.0) × (p.1 ≤ q.1))
    order p q (inl same) = let e : p.1 ≡ q.1 = ap (λ (p : ℕ × ℕ). p.1) same in inr (ap (λ (p : ℕ × ℕ). p.0) same, omega (arith, e))
    order p q (inr (inl less)) = inl less
    order p q (inr (inr both)) = inr (both.0, omega (arith, both.1))

    lowest : (q : ℕ × ℕ) → IsFilling k f q → (p : ℕ × ℕ) × (filling_pair k f ≡ Some p) × ((p.0 < q.0) ⊎ ((p.0 ≡ q.0) × (p.1 ≤ q.1)))
    lowest q is =
        let r = first_lowest PairBelow (λ p. fills k f p.0 p.1) (composable k.ends) q (composable_rises k.ends) (In-composable k.ends q.0 q.1 is.0.0 is.0.1.0 (eq-eqb _ _ is.0.1.1)) (is_fills k f q is) in
        (r.0, r.1, order r.0 q r.2)
