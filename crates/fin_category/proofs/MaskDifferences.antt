-- The first number that one of two sets has and the other has not, by their words.
use Rattle.std.proofs.Common.{◌≡◌, ℕ, zero, suc, ◌+◌, ◌*◌, ◌/◌, ◌%◌, ◌^◌, ◌<◌, ◌≤◌, Bool, true, false, not, inl, inr, List, length, get_or, refl, sym, ap, ◌∙◌, eqb, bit_xor, arith}
use Rattle.std.specs.Int.{bit_at}
use Rattle.std.specs.List.{range_with_len}
use Rattle.std.proofs.lemmas.Bool.{cases_lt}
use Rattle.std.proofs.lemmas.Nat.Bits.{bit_at_xor, bit_at-lt, bit_at-zero, same_from_bits}
use Rattle.finite_lists.proofs.Lists.{filter_same}
use Rattle.topos_model.specs.categories.Category.{has}
use Rattle.topos_model.specs.statements.Form.{max_arrows}
use Rattle.fin_category.specs.Masks.{marked, limit, members, IsFirstDifference}
use Rattle.fin_category.proofs.ArrowLists.{below_limit}
use Rattle.fin_category.proofs.MaskWords.{has-members}

two_bits : (a b : ℕ) → a < 2 → b < 2 → (a + b) % 2 ≡ 0 → a ≡ b
two_bits a b l m e = omega (arith, l, m, e)

other_bits : (a b : ℕ) → a < 2 → b < 2 → (a + b) % 2 ≡ 1 → eqb a 1 ≡ not (eqb b 1)
other_bits zero zero l m e = absurd (omega (arith, e))
other_bits zero (suc zero) l m e = refl
other_bits (suc zero) zero l m e = refl
other_bits (suc zero) (suc zero) l m e = absurd (omega (arith, e))
other_bits (suc (suc a)) b l m e = absurd (omega (arith, l))
other_bits zero (suc (suc b)) l m e = absurd (omega (arith, m))
other_bits (suc zero) (suc (suc b)) l m e = absurd (omega (arith, m))

-- words without a difference are equal
pub xor_same : (a b : ℕ) → bit_xor a b ≡ 0 → a ≡ b
xor_same a b e =
    same_from_bits a b (λ i. two_bits (bit_at a i) (bit_at b i) (bit_at-lt a i) (bit_at-lt b i) (sym (bit_at_xor a b i) ∙ ap (λ n. bit_at n i) e ∙ bit_at-zero i))

module _ (a b : List ℕ) where
  same_mark : (f : ℕ) → bit_at (get_or a (f / 64) 0) (f % 64) ≡ bit_at (get_or b (f / 64) 0) (f % 64) → marked a f ≡ marked b f
  unfolding marked
  same_mark f e = ap (λ n. eqb n 1) e

  other_mark : (f : ℕ) → bit_at (bit_xor (get_or a (f / 64) 0) (get_or b (f / 64) 0)) (f % 64) ≡ 1 → marked a f ≡ not (marked b f)
  unfolding marked
  other_mark f e = other_bits _ _ (bit_at-lt (get_or a (f / 64) 0) (f % 64)) (bit_at-lt (get_or b (f / 64) 0) (f % 64)) (sym (bit_at_xor (get_or a (f / 64) 0) (get_or b (f / 64) 0) (f % 64)) ∙ e)

  pub no_difference : ((j : ℕ) → j < 8 → get_or a j 0 ≡ get_or b j 0) → members a ≡ members b
  unfolding members
  no_difference h =
      filter_same (marked a) (marked b) (range_with_len 0 limit) (λ f i.
      let low = below_limit f i in same_mark f (ap (λ n. bit_at n (f % 64)) (h (f / 64) (omega (arith, low)))))

  pub difference : (i t : ℕ) → i < 8 → t < 64 → ((j : ℕ) → j < i → get_or a j 0 ≡ get_or b j 0) → bit_at (bit_xor (get_or a i 0) (get_or b i 0)) t ≡ 1 →
      ((n : ℕ) → n < t → bit_at (bit_xor (get_or a i 0) (get_or b i 0)) n ≡ 0) → IsFirstDifference (i * 64 + t) (members a) (members b)
  difference i t l m same one none =
      let q : (i * 64 + t) / 64 ≡ i = omega (arith, m) in
      let r : (i * 64 + t) % 64 ≡ t = omega (arith, m) in
      let low : i * 64 + t < 512 = omega (arith, l, m) in
      record {
        within = low;
        differs =
            has-members a (i * 64 + t) low
            ∙ other_mark (i * 64 + t) (ap (λ x. bit_at (bit_xor (get_or a x 0) (get_or b x 0)) ((i * 64 + t) % 64)) q ∙ ap (bit_at (bit_xor (get_or a i 0) (get_or b i 0))) r ∙ one)
            ∙ sym (ap not (has-members b (i * 64 + t) low));
        before = λ g below.
            let low' : g < 512 = omega (arith, below, low) in
            has-members a g low'
            ∙ same_mark g (elim (cases_lt (g / 64) i) [
              | inl e ↦ ap (λ n. bit_at n (g % 64)) (same (g / 64) e)
              | inr h ↦
                  let s : g / 64 ≡ i = omega (arith, h, below, m) in
                  let u : g % 64 < t = omega (arith, h, below, m) in
                  let x = get_or a (g / 64) 0 in
                  let y = get_or b (g / 64) 0 in
                  two_bits (bit_at x (g % 64)) (bit_at y (g % 64)) (bit_at-lt x (g % 64)) (bit_at-lt y (g % 64))
                  (sym (bit_at_xor x y (g % 64)) ∙ ap (λ j. bit_at (bit_xor (get_or a j 0) (get_or b j 0)) (g % 64)) s ∙ none (g % 64) u)
            ])
            ∙ sym (has-members b g low');
      }
