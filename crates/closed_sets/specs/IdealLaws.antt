-- Going down in an order of the places is a closure.
use Rattle.std.proofs.Common.{◌≡◌, ℕ, zero, suc, ◌+◌, ◌<◌, Bool, true, false, ◌&&◌, inl, inr, List, [], ◌∷◌, length, get_or, bit_and, sym, ap, ◌∙◌, arith}
use Rattle.std.specs.Int.Bits.{and_self}
use Rattle.std.proofs.lemmas.Nat.{and_assoc}
use Rattle.std.proofs.lemmas.Bool.{or_cases, or_left, or_right, and_parts, and_from, eqb-true, eq-eqb, false≢true}
use Rattle.std.proofs.lemmas.List.{same_lists, get_or_default}
use Rattle.std.proofs.lemmas.List.FromFn.{length-map-range_with_len, get_or-map-range_with_len}
use Rattle.finite_lists.proofs.Lists.{same_tests}
use Rattle.closed_sets.specs.Closed.{IsBelow, IsClosure}
use Rattle.closed_sets.specs.Ideals.{is_below_some, lowered, is_subset}

-- a place that a set has is one of its places
pub in_list : (a : List Bool) (k : ℕ) → get_or a k false ≡ true → k < length a
in_list [] k h = absurd (false≢true h)
in_list (x ∷ a) zero h = omega arith
in_list (x ∷ a) (suc k) h = let l = in_list a k h in omega arith

module _ (below : ℕ → ℕ → Bool) where
  pub some_place : (k i : ℕ) (a : List Bool) → is_below_some below k i a ≡ true → (j : ℕ) × (j < length a) × (get_or a j false ≡ true) × (below k (i + j) ≡ true)
  some_place k i [] h = absurd (false≢true h)
  some_place k i (x ∷ a) h =
      elim (or_cases (x && below k i) (is_below_some below k (i + 1) a) h) [
        | inl e ↦ let p = and_parts x (below k i) e in (0, omega arith, p.0, (let z : i + 0 ≡ i = omega arith in ap (below k) z ∙ p.1))
        | inr e ↦
            let r = some_place k (i + 1) a e in
            let s : i + suc r.0 ≡ i + 1 + r.0 = omega arith in
            (suc r.0, omega (arith, r.1), r.2, ap (below k) s ∙ r.3)
      ]

  pub place_some : (k i j : ℕ) (a : List Bool) → get_or a j false ≡ true → below k (i + j) ≡ true → is_below_some below k i a ≡ true
  place_some k i j [] h b = absurd (false≢true h)
  place_some k i zero (x ∷ a) h b = or_left _ _ (and_from x (below k i) h (let z : i ≡ i + 0 = omega arith in ap (below k) z ∙ b))
  place_some k i (suc j) (x ∷ a) h b = or_right (x && below k i) _ (place_some k (i + 1) j a h (let s : i + 1 + j ≡ i + suc j = omega arith in ap (below k) s ∙ b))

  pub length-lowered : (a : List Bool) → length (lowered below a) ≡ length a
  unfolding lowered
  length-lowered a = length-map-range_with_len (λ k. is_below_some below k 0 a) 0 (length a)

  pub read : (a : List Bool) (k : ℕ) → k < length a → get_or (lowered below a) k false ≡ is_below_some below k 0 a
  unfolding lowered
  read a k low = get_or-map-range_with_len (λ k. is_below_some below k 0 a) 0 (length a) k k false low (omega arith)

  -- a set with these places is the lowered one
  pub lowered-from_reads : (a c : List Bool) → length c ≡ length a → ((k : ℕ) → k < length a → get_or c k false ≡ is_below_some below k 0 a) → c ≡ lowered below a
  lowered-from_reads a c e h =
      same_lists c (lowered below a) (e ∙ sym (length-lowered a)) (λ k d low.
      let l : k < length a = omega (arith, e, low) in
      let l' : k < length (lowered below a) = omega (arith, length-lowered a, l) in
      get_or_default c k d false low ∙ h k l ∙ sym (read a k l) ∙ get_or_default (lowered below a) k false d l')

  module _ (itself : (k : ℕ) → below k k ≡ true) (through : (k j i : ℕ) → below k j ≡ true → below j i ≡ true → below k i ≡ true) where
    lowered_place : (a : List Bool) (k : ℕ) → get_or (lowered below a) k false ≡ true → (k < length a) × ((j : ℕ) × (get_or a j false ≡ true) × (below k j ≡ true))
    lowered_place a k h =
        let l : k < length a = omega (arith, in_list (lowered below a) k h, length-lowered a) in
        let r = some_place k 0 a (sym (read a k l) ∙ h) in
        let z : r.0 ≡ 0 + r.0 = omega arith in
        (l, (r.0, r.2, ap (below k) z ∙ r.3))

    place_lowered : (a : List Bool) (k j : ℕ) → k < length a → get_or a j false ≡ true → below k j ≡ true → get_or (lowered below a) k false ≡ true
    place_lowered a k j l h b = read a k l ∙ place_some k 0 j a h (let z : 0 + j ≡ j = omega arith in ap (below k) z ∙ b)

    extends : (a : List Bool) → IsBelow a (lowered below a)
    extends a k h = place_lowered a k k (in_list a k h) h (itself k)

    twice : (a : List Bool) → lowered below (lowered below a) ≡ lowered below a
    twice a =
        same_lists (lowered below (lowered below a)) (lowered below a) (length-lowered (lowered below a)) (λ k d low.
        let low' : k < length (lowered below a) = omega (arith, low, length-lowered (lowered below a)) in
        get_or_default (lowered below (lowered below a)) k d false low
        ∙ same_tests (get_or (lowered below (lowered below a)) k false) (get_or (lowered below a) k false)
        (λ i.
        let r = lowered_place (lowered below a) k i in
        let (j, g, q) = r.1 in
        let (m, g', q') = (lowered_place a j g).1 in
        place_lowered a k m (let l = r.0 in omega (arith, l, length-lowered a)) g' (through k j m q q'))
        (λ i. extends (lowered below a) k i)
        ∙ get_or_default (lowered below a) k false d low')

    pub lowered_closure : (n : ℕ) → IsClosure n (lowered below)
    lowered_closure n = record {
      keeps = λ a e. length-lowered a ∙ e;
      extensive = λ a e. extends a;
      monotone = λ a b e f h k i.
          let r = lowered_place a k i in
          let (j, g, q) = r.1 in
          place_lowered b k j (let l = r.0 in omega (arith, e, f, l)) (h j g) q;
      idempotent = λ a e. twice a;
    }

pub subset_itself : (k : ℕ) → is_subset k k ≡ true
subset_itself k = eq-eqb (bit_and k k) k (and_self k)

pub subset_through : (k j i : ℕ) → is_subset k j ≡ true → is_subset j i ≡ true → is_subset k i ≡ true
subset_through k j i p q =
    let a : bit_and k j ≡ k = eqb-true (bit_and k j) k p in
    let b : bit_and j i ≡ j = eqb-true (bit_and j i) j q in
    eq-eqb (bit_and k i) k (ap (λ x. bit_and x i) (sym a) ∙ and_assoc i k j ∙ ap (bit_and k) b ∙ a)

pub subsets_closure : (n : ℕ) → IsClosure n (lowered is_subset)
subsets_closure n = lowered_closure is_subset subset_itself subset_through n
