-- Chains of the indices that have the same key.
use Rattle.std.proofs.Common.{◌≡◌, ℕ, zero, suc, ◌+◌, ◌<◌, ◌≤◌, ◌⊎◌, inl, inr, Bool, true, false, cond, eqb, List, [], ◌∷◌, ◌++◌, length, get_or, set, refl, sym, ap, ◌∙◌, arith, get_or-set_same, get_or-set_other}
use Rattle.std.proofs.lemmas.Bool.{eqb-true, eq-eqb, ne_eqb}
use Rattle.std.proofs.lemmas.List.{get_or_append_left, get_or-append-add}
use Rattle.natural_search.specs.Squares.{last_before}

pub last-same : (keys : List ℕ) (p n : ℕ) → get_or keys n 0 ≡ p → last_before keys p (n + 1) ≡ n + 1
unfolding last_before
last-same keys p n e =
    let m : n + 1 ≡ suc n = omega arith in
    ap (last_before keys p) m ∙ ap (λ b. cond b (suc n) (last_before keys p n)) (eq-eqb _ _ e) ∙ sym m

pub last-other : (keys : List ℕ) (p n : ℕ) → (get_or keys n 0 ≡ p → ⊥) → last_before keys p (n + 1) ≡ last_before keys p n
unfolding last_before
last-other keys p n ne =
    let m : n + 1 ≡ suc n = omega arith in
    ap (last_before keys p) m ∙ ap (λ b. cond b (suc n) (last_before keys p n)) (ne_eqb _ _ ne)

pub split : (i n : ℕ) → i < n + 1 → (i < n) ⊎ (i ≡ n)
split zero zero l = inr refl
split zero (suc n) l = inl (omega arith)
split (suc i) zero l = absurd (omega arith)
split (suc i) (suc n) l = elim (split i n (omega arith)) [ inl a ↦ inl (omega arith) | inr e ↦ inr (ap suc e) ]

-- one more key
pub heads_more : (keys heads : List ℕ) (count i : ℕ) → length heads ≡ count → ((p : ℕ) → p < count → get_or heads p 0 ≡ last_before keys p i) → get_or keys i 0 < count →
    (p : ℕ) → p < count → get_or (set heads (get_or keys i 0) (i + 1)) p 0 ≡ last_before keys p (i + 1)
heads_more keys heads count i n h within p low = at (eqb (get_or keys i 0) p) refl
  where
    at : (b : Bool) → eqb (get_or keys i 0) p ≡ b → get_or (set heads (get_or keys i 0) (i + 1)) p 0 ≡ last_before keys p (i + 1)
    at true e =
        let same = eqb-true (get_or keys i 0) p e in
        ap (λ q. get_or (set heads q (i + 1)) p 0) same ∙ get_or-set_same heads p (i + 1) 0 (omega (arith, n)) ∙ sym (last-same keys p i same)
    at false e =
        let ne : get_or keys i 0 ≡ p → ⊥ = λ s. clash (sym (eq-eqb _ _ s) ∙ e) in
        get_or-set_other heads (get_or keys i 0) p (i + 1) 0 (λ s. ne (sym s)) ∙ h p low ∙ sym (last-other keys p i ne)
      where
        clash : true ≡ false → ⊥
        clash q = absurd cc

-- one more link
pub links_more : (keys links : List ℕ) (i k : ℕ) → length links ≡ i → ((j : ℕ) → j < i → get_or links j 0 ≡ last_before keys (get_or keys j 0) j) → k ≡ last_before keys (get_or keys i 0) i →
    (j : ℕ) → j < i + 1 → get_or (links ++ k ∷ []) j 0 ≡ last_before keys (get_or keys j 0) j
links_more keys links i k n h read j low = elim (split j i (omega arith)) [
  | inl before ↦ get_or_append_left links (k ∷ []) 0 j (omega (arith, n)) ∙ h j before
  | inr same ↦
      (let e : j ≡ length links + 0 = omega (arith, n) in ap (λ m. get_or (links ++ k ∷ []) m 0) e) ∙ get_or-append-add links (k ∷ []) 0 0
      ∙ read ∙ ap (λ m. last_before keys (get_or keys m 0) m) (sym same)
]

-- the last index before n that has the key, and none after it
pub record IsLast (keys : List ℕ) (p n k : ℕ) : Type 0 where
  pub low : k ≤ n
  pub key : (i : ℕ) → i + 1 ≡ k → get_or keys i 0 ≡ p
  pub none : (i : ℕ) → k ≤ i → i < n → get_or keys i 0 ≡ p → ⊥

pub last_is : (keys : List ℕ) (p n : ℕ) → IsLast keys p n (last_before keys p n)
unfolding last_before
last_is keys p zero = record { low = omega arith; key = λ i e. absurd (omega (arith, e)); none = λ i a b e. absurd (omega arith) }
last_is keys p (suc n) = at (eqb (get_or keys n 0) p) refl (last_is keys p n)
  where
    at : (b : Bool) → eqb (get_or keys n 0) p ≡ b → IsLast keys p n (last_before keys p n) → IsLast keys p (suc n) (cond b (suc n) (last_before keys p n))
    at true e is = record {
      low = omega arith;
      key = λ i s. (let j : i ≡ n = omega (arith, s) in ap (λ m. get_or keys m 0) j) ∙ eqb-true _ _ e;
      none = λ i a b s. absurd (omega arith);
    }
    at false e is = record {
      low = omega (arith, is.low);
      key = is.key;
      none = λ i a b s. elim (split i n (omega arith)) [ inl l ↦ is.none i a l s | inr j ↦ clash (sym (eq-eqb _ _ (ap (λ m. get_or keys m 0) (sym j) ∙ s)) ∙ e) ];
    }
      where
        clash : true ≡ false → ⊥
        clash q = absurd cc
