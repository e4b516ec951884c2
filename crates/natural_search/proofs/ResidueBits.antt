-- Sets of residues modulo 64, as the bits of words.
use Rattle.std.proofs.Common.{◌≡◌, ℕ, ◌-◌, ◌*◌, ◌%◌, ◌^◌, ◌<◌, zero, suc, inl, inr, true, sym, ap, ◌∙◌, arith, bit_and, bit_or, w64, refl, Bool, false, ◌⊎◌}
use Rattle.std.specs.Int.{bit_at, bit_not, trailing_zeros}
use Rattle.std.proofs.lemmas.Bool.{eqb-true, eq-eqb, cases_eq}
use Rattle.std.proofs.lemmas.Nat.Bits.{bit_at-trailing_zeros, bit_at_and, bit_at_or, bit_at-lt, bit_at-zero, bit_at_ones, bit_at-pow_same, bit_at-pow_other, bit_at_clear_same, bit_at_clear_other}
use Rattle.std.proofs.lemmas.Nat.{and_le_l}
use Rattle.std.proofs.Math.Pow.{pow-lt}
use Rattle.std.proofs.Math.Nat.{mod-eq_of_lt, mod-lt}
use Rattle.natural_search.specs.Domains.{allows}

residue_low : (v : ℕ) → v % 64 < 64
residue_low v = mod-lt v (omega arith)

bit_of : (mask v : ℕ) → allows mask v ≡ true → bit_at mask (v % 64) ≡ 1
unfolding allows
bit_of mask v e = eqb-true _ _ e

of_bit : (mask v : ℕ) → bit_at mask (v % 64) ≡ 1 → allows mask v ≡ true
unfolding allows
of_bit mask v e = eq-eqb _ _ e

pub allows_or_left : (a b v : ℕ) → allows a v ≡ true → allows (bit_or a b) v ≡ true
allows_or_left a b v e = let h = bit_of a v e in let l = bit_at-lt b (v % 64) in of_bit (bit_or a b) v (omega (arith, bit_at_or a b (v % 64), h, l))

pub allows_or_right : (a b v : ℕ) → allows b v ≡ true → allows (bit_or a b) v ≡ true
allows_or_right a b v e = let h = bit_of b v e in let l = bit_at-lt a (v % 64) in of_bit (bit_or a b) v (omega (arith, bit_at_or a b (v % 64), h, l))

pub allows_and : (a b v : ℕ) → allows a v ≡ true → allows b v ≡ true → allows (bit_and a b) v ≡ true
allows_and a b v e f = let h = bit_of a v e in let g = bit_of b v f in of_bit (bit_and a b) v (omega (arith, bit_at_and a b (v % 64), h, g))

pub allows_none : (v : ℕ) → allows 0 v ≡ true → ⊥
allows_none v e = let h = bit_of 0 v e in omega (arith, bit_at-zero (v % 64), h)

pub allows_one : (v : ℕ) → allows (1 * 2 ^ (v % 64) % 18446744073709551616) v ≡ true
allows_one v =
    let k = v % 64 in
    let small : 1 * 2 ^ k < 18446744073709551616 = omega (arith, pow-lt {i = k} {j = 64} (residue_low v)) in
    let same : 2 ^ k ≡ 1 * 2 ^ k % 18446744073709551616 = (let one : 2 ^ k ≡ 1 * 2 ^ k = omega arith in one) ∙ sym (mod-eq_of_lt small) in
    of_bit _ v (ap (λ m. bit_at m k) (sym same) ∙ bit_at-pow_same k)

pub allows_below : (bound v : ℕ) → bound < 64 → v < bound → allows (1 * 2 ^ bound % 18446744073709551616 - 1) v ≡ true
allows_below bound v low below =
    let small : 1 * 2 ^ bound < 18446744073709551616 = omega (arith, pow-lt {i = bound} {j = 64} low) in
    let same : 2 ^ bound ≡ 1 * 2 ^ bound % 18446744073709551616 = (let one : 2 ^ bound ≡ 1 * 2 ^ bound = omega arith in one) ∙ sym (mod-eq_of_lt small) in
    let at : v % 64 ≡ v = mod-eq_of_lt (omega arith) in
    of_bit _ v (ap (λ m. bit_at (m - 1) (v % 64)) (sym same) ∙ bit_at_ones bound (v % 64) (omega (arith, at)))

pub allows_all : (v : ℕ) → allows 18446744073709551615 v ≡ true
allows_all v = of_bit 18446744073709551615 v (bit_at_ones 64 (v % 64) (residue_low v))

-- the word of one residue has no other
pub sole_residue : (mask residue v : ℕ) → mask ≡ 2 ^ residue → allows mask v ≡ true → v % 64 ≡ residue
sole_residue mask residue v is e = elim (cases_eq (v % 64) residue) [
  | inl same ↦ same
  | inr other ↦ (let none = ap (λ m. bit_at m (v % 64)) is ∙ bit_at-pow_other residue (v % 64) other in absurd (omega (arith, none, bit_of mask v e)))
]

pub shifted_one : (residue : ℕ) → residue < 64 → 1 * 2 ^ residue % 18446744073709551616 ≡ 2 ^ residue
shifted_one residue low =
    let small : 1 * 2 ^ residue < 18446744073709551616 = omega (arith, pow-lt {i = residue} {j = 64} low) in
    mod-eq_of_lt small ∙ (let one : 1 * 2 ^ residue ≡ 2 ^ residue = omega arith in one)

-- its lowest bit is the only one
pub lowest_of_one : (mask residue : ℕ) → residue < 64 → mask ≡ 2 ^ residue → trailing_zeros w64 mask ≡ residue
lowest_of_one mask residue low is =
    let same = ap (λ m. bit_at m residue) is ∙ bit_at-pow_same residue in
    let some : 0 < mask = decide mask refl same in
    let fits : mask < 18446744073709551616 = omega (arith, is, pow-lt {i = residue} {j = 64} low) in
    let lowest = bit_at-trailing_zeros w64 mask some fits in
    elim (cases_eq (trailing_zeros w64 mask) residue) [
      | inl e ↦ e
      | inr other ↦ (let none = ap (λ m. bit_at m (trailing_zeros w64 mask)) is ∙ bit_at-pow_other residue (trailing_zeros w64 mask) other in absurd (omega (arith, none, lowest.1)))
    ]
  where
    decide : (n : ℕ) → mask ≡ n → bit_at mask residue ≡ 1 → 0 < mask
    decide zero e b = (let none = ap (λ m. bit_at m residue) e ∙ bit_at-zero residue in absurd (omega (arith, none, b)))
    decide (suc n) e b = omega (arith, e)

-- the word without its lowest residue has the others, and is less
pub cleared_other : (mask residue v : ℕ) → residue < 64 → (v % 64 ≡ residue → ⊥) → allows mask v ≡ true → allows (bit_and mask (bit_not w64 (1 * 2 ^ residue % 2 ^ 64))) v ≡ true
cleared_other mask residue v low other e = of_bit _ v (bit_at_clear_other w64 mask residue low (v % 64) (residue_low v) other ∙ bit_of mask v e)

pub cleared_less : (mask residue : ℕ) → residue < 64 → bit_at mask residue ≡ 1 → bit_and mask (bit_not w64 (1 * 2 ^ residue % 2 ^ 64)) < mask
cleared_less mask residue low one =
    let le = and_le_l mask (bit_not w64 (1 * 2 ^ residue % 2 ^ 64)) in
    let none = bit_at_clear_same w64 mask residue low in
    elim (cases_eq (bit_and mask (bit_not w64 (1 * 2 ^ residue % 2 ^ 64))) mask) [
      | inl same ↦ (let b : bit_at mask residue ≡ 0 = ap (λ m. bit_at m residue) (sym same) ∙ none in absurd (omega (arith, b, one)))
      | inr ne ↦ omega (arith, le, ne)
    ]

pub allows_or_not : (mask v : ℕ) → (allows mask v ≡ true) ⊎ (allows mask v ≡ false)
allows_or_not mask v = decide (allows mask v) refl
  where
    decide : (b : Bool) → allows mask v ≡ b → (allows mask v ≡ true) ⊎ (allows mask v ≡ false)
    decide true e = inl e
    decide false e = inr e

pub allows_nothing : (v : ℕ) → allows 0 v ≡ false
allows_nothing v = elim (allows_or_not 0 v) [ inl e ↦ absurd (allows_none v e) | inr e ↦ e ]
