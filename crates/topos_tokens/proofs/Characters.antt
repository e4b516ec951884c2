-- Characters that pass a test, one behind the other.
use Rattle.std.proofs.Common.{◌≡◌, ℕ, ◌+◌, ◌-◌, Bool, true, false, ◌&&◌, List, [], ◌∷◌, ◌++◌, length, take, refl, sym, ap, ◌∙◌, arith, append_assoc, length-append}
use Rattle.std.specs.List.{list_all}
use Rattle.std.specs.Str.{chars, encode_utf8_all, IsUtf8}
use Rattle.std.proofs.lemmas.List.{take_at}
use Rattle.std.proofs.lemmas.List.Folds.{list_all-append}
use Rattle.std.proofs.lemmas.Str.{encodes-append, encodes-chars}
use Rattle.topos_tokens.specs.Fronts.{Passed}

pub head_same : (a b : ℕ) (x y : List ℕ) → a ∷ x ≡ b ∷ y → a ≡ b
head_same a b x y e = cc

pub tail_same : (a b : ℕ) (x y : List ℕ) → a ∷ x ≡ b ∷ y → x ≡ y
tail_same a b x y e = cc

pub both : (a b : Bool) → a ≡ true → b ≡ true → (a && b) ≡ true
both true b p q = q
both false b p q = absurd cc

pub first_true : (a b : Bool) → (a && b) ≡ true → a ≡ true
first_true true b p = refl
first_true false b p = absurd cc

pub second_true : (a b : Bool) → (a && b) ≡ true → b ≡ true
second_true true b p = p
second_true false b p = absurd cc

pub is_absurd : (b : Bool) → b ≡ true → b ≡ false → ⊥
is_absurd b p q = let bad : true ≡ false = sym p ∙ q in absurd cc

pub passed_none : (test : ℕ → Bool) (text : List ℕ) → Passed test text text
passed_none test text = record { front = []; parts = refl; all = refl }

all_more : (test : ℕ → Bool) (cs : List ℕ) (c : ℕ) → list_all test cs ≡ true → test c ≡ true → list_all test (cs ++ c ∷ []) ≡ true
all_more test cs c all passes = rw list_all-append (both (list_all test cs) (list_all test (c ∷ [])) all (both (test c) true passes refl))

pub passed_more : (test : ℕ → Bool) (text rest behind : List ℕ) (c : ℕ) → rest ≡ c ∷ behind → test c ≡ true → Passed test text rest → Passed test text behind
passed_more test text rest behind c is passes p = record {
  front = p.front ++ c ∷ [];
  parts = p.parts ∙ ap (λ z. p.front ++ z) is ∙ sym (append_assoc p.front (c ∷ []) behind);
  all = all_more test p.front c p.all passes;
}

-- the bytes of the characters before the rest
pub bytes_parts : (text rest front : List ℕ) → IsUtf8 text → IsUtf8 rest → chars text ≡ front ++ chars rest → text ≡ encode_utf8_all front ++ rest
bytes_parts text rest front u v e =
    sym (encodes-chars text u) ∙ ap encode_utf8_all e ∙ encodes-append front (chars rest) ∙ ap (λ z. encode_utf8_all front ++ z) (encodes-chars rest v)

pub bytes_len : (text rest front : List ℕ) → IsUtf8 text → IsUtf8 rest → chars text ≡ front ++ chars rest → length text ≡ length (encode_utf8_all front) + length rest
bytes_len text rest front u v e = ap length (bytes_parts text rest front u v e) ∙ length-append (encode_utf8_all front) rest

pub bytes_front : (text rest front : List ℕ) → IsUtf8 text → IsUtf8 rest → chars text ≡ front ++ chars rest → take (length text - length rest) text ≡ encode_utf8_all front
bytes_front text rest front u v e =
    let n : length (encode_utf8_all front) ≡ length text - length rest = omega (arith, bytes_len text rest front u v e) in
    ap (λ z. take (length text - length rest) z) (bytes_parts text rest front u v e) ∙ take_at (encode_utf8_all front) rest (length text - length rest) n
