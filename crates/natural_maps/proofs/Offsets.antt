-- The places of the elements at all objects, none of which two elements share.
use Rattle.std.proofs.Common.{◌≡◌, ℕ, zero, suc, ◌+◌, ◌<◌, ◌≤◌, ◌⊎◌, inl, inr, List, [], ◌∷◌, length, get_or, refl, ap, ◌∙◌, arith}
use Rattle.natural_maps.specs.Places.{offset}

pub offset-none : (sizes : List ℕ) → offset sizes 0 ≡ 0
offset-none [] = refl
offset-none (n ∷ sizes) = refl

pub offset-more : (sizes : List ℕ) (c : ℕ) → c < length sizes → offset sizes (c + 1) ≡ offset sizes c + get_or sizes c 0
offset-more [] c low = absurd (omega arith)
offset-more (n ∷ sizes) zero low = omega (arith, offset-none sizes)
offset-more (n ∷ sizes) (suc c) low =
    let e : suc c + 1 ≡ suc (c + 1) = omega arith in
    ap (offset (n ∷ sizes)) e ∙ omega (arith, offset-more sizes c (omega arith))

pub offset-apart : (sizes : List ℕ) (c d : ℕ) → c < d → c < length sizes → offset sizes c + get_or sizes c 0 ≤ offset sizes d
offset-apart [] c d low within = absurd (omega arith)
offset-apart (n ∷ sizes) c zero low within = absurd (omega arith)
offset-apart (n ∷ sizes) zero (suc d) low within = omega arith
offset-apart (n ∷ sizes) (suc c) (suc d) low within = omega (arith, offset-apart sizes c d (omega arith) (omega arith))

pub place_within : (sizes : List ℕ) (c x : ℕ) → c < length sizes → x < get_or sizes c 0 → offset sizes c + x < offset sizes (length sizes)
place_within sizes c x low within = omega (arith, offset-apart sizes c (length sizes) low low)

-- two elements at one place are one
pub same_place : (sizes : List ℕ) (c d x y : ℕ) → c < length sizes → d < length sizes → x < get_or sizes c 0 → y < get_or sizes d 0 → offset sizes c + x ≡ offset sizes d + y → (c ≡ d) × (x ≡ y)
same_place sizes c d x y p q r s e =
    elim (three c d) [
      | inl below ↦ absurd (omega (arith, offset-apart sizes c d below p))
      | inr (inl same) ↦ (same, let o : offset sizes c ≡ offset sizes d = ap (offset sizes) same in omega (arith, o))
      | inr (inr above) ↦ absurd (omega (arith, offset-apart sizes d c above q))
    ]
  where
    three : (c d : ℕ) → (c < d) ⊎ ((c ≡ d) ⊎ (d < c))
    three zero zero = inr (inl refl)
    three zero (suc d) = inl (omega arith)
    three (suc c) zero = inr (inr (omega arith))
    three (suc c) (suc d) = elim (three c d) [ inl l ↦ inl (omega arith) | inr (inl e) ↦ inr (inl (ap suc e)) | inr (inr g) ↦ inr (inr (omega arith)) ]
