-- Digits, one behind the other.
use Rattle.std.proofs.Common.{◌≡◌, inl, inr, ℕ, suc, zero, ◌+◌, ◌-◌, ◌*◌, ◌^◌, ◌≤◌, ◌<◌, true, ◌&&◌, List, [], ◌∷◌, ◌++◌, length, leb, add-one, refl, sym, ap, ◌∙◌, arith, append_assoc, length-append}
use Rattle.std.specs.List.{list_all}
use Rattle.std.proofs.Math.Nat.{pow-suc}
use Rattle.std.proofs.lemmas.Bool.{leb-true}
use Rattle.std.proofs.lemmas.List.Folds.{list_all-append}
use Rattle.topos_text.specs.Spelling.{is_digit, are_digits, number_from, number_of}
use Rattle.topos_tokens.specs.Fronts.{EndsDigits, IsDigits, NoDigits}
use Rattle.topos_tokens.proofs.Characters.{both, first_true, second_true}

-- The text begins with so many digits, at most nine, which stand for the value, and goes on with the rest.
pub record Counted (text : List ℕ) (value count : ℕ) (rest : List ℕ) : Type 0 where
  pub digits : List ℕ
  pub parts : text ≡ digits ++ rest
  pub all : list_all is_digit digits ≡ true
  pub len : length digits ≡ count
  pub few : count ≤ 9
  pub is : value ≡ number_from 0 digits
  pub bound : value < 10 ^ count

pub counted_none : (text : List ℕ) → Counted text 0 0 text
counted_none text = record { digits = []; parts = refl; all = refl; len = refl; few = omega arith; is = refl; bound = omega arith }

number_more : (n : ℕ) (cs : List ℕ) (c : ℕ) → number_from n (cs ++ c ∷ []) ≡ number_from n cs * 10 + (c - 48)
number_more n [] c = refl
number_more n (d ∷ cs) c = number_more (n * 10 + (d - 48)) cs c

all_more : (cs : List ℕ) (c : ℕ) → list_all is_digit cs ≡ true → is_digit c ≡ true → list_all is_digit (cs ++ c ∷ []) ≡ true
all_more cs c all is = rw list_all-append (both (list_all is_digit cs) (list_all is_digit (c ∷ [])) all (both (is_digit c) true is refl))

pub digit_range : (c : ℕ) → is_digit c ≡ true → (48 ≤ c) × (c ≤ 57)
digit_range c e = (leb-true 48 c (first_true (leb 48 c) (leb c 57) e), leb-true c 57 (second_true (leb 48 c) (leb c 57) e))

power : (k : ℕ) → 10 ^ (k + 1) ≡ 10 ^ k * 10
power k = rw add-one (pow-suc 10 k)

powers : (k m : ℕ) → 10 ^ k ≤ 10 ^ (k + m)
powers k zero = omega (arith, ap (λ n. 10 ^ n) (sum k))
  where
    sum : (k : ℕ) → k + 0 ≡ k
    sum k = omega arith
powers k (suc m) = omega (arith, powers k m, power (k + m), ap (λ n. 10 ^ n) (sum k m))
  where
    sum : (k m : ℕ) → k + suc m ≡ k + m + 1
    sum k m = omega arith

pub power_bound : (k : ℕ) → k ≤ 8 → 10 ^ k ≤ 100000000
power_bound k h = omega (arith, powers k (8 - k), ap (λ m. 10 ^ m) (rest k h))
  where
    rest : (k : ℕ) → k ≤ 8 → k + (8 - k) ≡ 8
    rest k h = omega arith

pub counted_more : (text rest behind : List ℕ) (value count c : ℕ) → rest ≡ c ∷ behind → is_digit c ≡ true → count < 9 → Counted text value count rest → Counted text (value * 10 + (c - 48)) (count + 1) behind
counted_more text rest behind value count c e digit lt k = record {
  digits = k.digits ++ c ∷ [];
  parts = k.parts ∙ ap (λ z. k.digits ++ z) e ∙ sym (append_assoc k.digits (c ∷ []) behind);
  all = all_more k.digits c k.all digit;
  len = length-append k.digits (c ∷ []) ∙ ap (λ n. n + 1) k.len;
  few = omega (arith, lt);
  is = ap (λ n. n * 10 + (c - 48)) k.is ∙ sym (number_more 0 k.digits c);
  bound = omega (arith, k.bound, power count, digit_range c digit);
}

is_leb : (a b : ℕ) → a ≤ b → leb a b ≡ true
is_leb a b h = grind (arith, h)

pub counted_digits : (text rest : List ℕ) (value count : ℕ) → Counted text value count rest → (count ≡ 0 → ⊥) → EndsDigits rest → IsDigits text value rest
unfolding are_digits number_of
counted_digits text rest value count k some ends = record { digits = k.digits; parts = k.parts; are = both (list_all is_digit k.digits && leb 1 (length k.digits)) (leb (length k.digits) 9) (both (list_all is_digit k.digits) (leb 1 (length k.digits)) k.all (is_leb 1 (length k.digits) (omega (arith, k.len, some)))) (is_leb (length k.digits) 9 (omega (arith, k.len, k.few))); is = k.is; ends = ends }

pub counted_nothing : (text rest : List ℕ) (value count : ℕ) → Counted text value count rest → count ≡ 0 → EndsDigits rest → NoDigits text
counted_nothing text rest value count k none ends = record { digits = k.digits; rest = rest; parts = k.parts; all = k.all; few = λ h. ends; count = inl (omega (arith, k.len, none)) }

pub counted_ten : (text rest behind : List ℕ) (value count c : ℕ) → rest ≡ c ∷ behind → is_digit c ≡ true → count ≡ 9 → Counted text value count rest → NoDigits text
counted_ten text rest behind value count c e digit nine k = record {
  digits = k.digits ++ c ∷ [];
  rest = behind;
  parts = k.parts ∙ ap (λ z. k.digits ++ z) e ∙ sym (append_assoc k.digits (c ∷ []) behind);
  all = all_more k.digits c k.all digit;
  few = λ h. absurd (omega (arith, h, length-append k.digits (c ∷ []), k.len, nine));
  count = inr (omega (arith, length-append k.digits (c ∷ []), k.len, nine));
}
