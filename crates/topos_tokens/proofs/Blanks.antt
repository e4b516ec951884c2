-- White space, comments and tokens, one behind the other.
use Rattle.std.proofs.Common.{◌≡◌, ℕ, ◌+◌, ◌-◌, ◌≤◌, ◌<◌, Bool, true, false, not, ◌==◌, List, [], ◌∷◌, ◌++◌, length, refl, sym, ap, subst, ◌∙◌, arith, append_assoc, length-append}
use Rattle.std.specs.Prelude.{IsUtf8, chars, encode_utf8_all}
use Rattle.std.proofs.lemmas.List.{append-nil}
use Rattle.std.proofs.lemmas.Str.{chars-nil, encodes-chars, length-le-encodes}
use Rattle.topos_text.specs.Tokens.{Token}
use Rattle.topos_text.specs.Lexing.{SpellsToken, Lexes, stop, space, comment, token, is_space, is_no_line_feed, EndsComment, IsLongest, IsBadToken}
use Rattle.topos_tokens.specs.Fronts.{Passed, IsFront, NoToken, NoBlank}
use Rattle.topos_tokens.proofs.Characters.{head_same, tail_same, bytes_len}
use Rattle.topos_tokens.proofs.Fronts.{spelled_some}
use Rattle.topos_tokens.proofs.Words.{same_if}

pub no_line_feed : (c : ℕ) → (c ≡ 10 → ⊥) → is_no_line_feed c ≡ true
no_line_feed c other = by_test (c == 10) refl
  where
    by_test : (b : Bool) → (c == 10) ≡ b → not (c == 10) ≡ true
    by_test true is = absurd (other (grind (arith, is)))
    by_test false is = ap not is

-- tokens behind tokens
pub lexes_then : {n : ℕ} {a b d : List ℕ} {ts us : List Token} → Lexes n a ts b → Lexes (n + length ts) b us d → Lexes n a (ts ++ us) d
lexes_then {n} {b = b} {d = d} {us = us} stop e = subst (λ m. Lexes m b us d) (omega arith) e
lexes_then (space is r) e = space is (lexes_then r e)
lexes_then (comment xs all ends r) e = comment xs all ends (lexes_then r e)
lexes_then {n} {b = b} {d = d} {us = us} (token {ts = ts} spelled longest ends r) e = token spelled longest ends (lexes_then r (subst (λ m. Lexes m b us d) (omega arith) e))

pub lexes_space : (n c : ℕ) (text rest : List ℕ) → text ≡ c ∷ rest → is_space c ≡ true → Lexes n text [] rest
lexes_space n c text rest e is = subst (λ z. Lexes n z [] rest) (sym e) (space is stop)

pub lexes_comment : (n : ℕ) (text behind comment_text rest : List ℕ) → text ≡ 47 ∷ behind → behind ≡ 47 ∷ comment_text → Passed is_no_line_feed comment_text rest → EndsComment rest → Lexes n text [] rest
lexes_comment n text behind comment_text rest e f p ends =
    subst (λ z. Lexes n z [] rest) (ap (λ z. 47 ∷ 47 ∷ z) (sym p.parts) ∙ ap (λ z. 47 ∷ z) (sym f) ∙ sym e) (comment p.front p.all ends stop)

-- blank behind blank
pub blank_then : (n : ℕ) (a b d : List ℕ) → Lexes n a [] b → Lexes n b [] d → Lexes n a [] d
blank_then n a b d r e = lexes_then r (subst (λ m. Lexes m b [] d) (omega arith) e)

pub lexes_token : (n : ℕ) (a b d : List ℕ) (ts : List Token) (t : Token) → Lexes n a ts b → IsFront (n + length ts) b t d → Lexes n a (ts ++ t ∷ []) d
lexes_token n a b d ts t r f = lexes_then r (subst (λ z. Lexes (n + length ts) z (t ∷ []) d) (sym f.parts) (token f.spelled (subst (λ z. IsLongest z f.front) f.parts f.longest) f.ends stop))

pub lexes_blank : (n : ℕ) (a b d : List ℕ) (ts : List Token) → Lexes n a ts b → Lexes (n + length ts) b [] d → Lexes n a ts d
lexes_blank n a b d ts r e = subst (λ z. Lexes n a z d) (append-nil ts) (lexes_then r e)

-- the characters that were read
pub lexes_parts : {n : ℕ} {a b : List ℕ} {ts : List Token} → Lexes n a ts b → (front : List ℕ) × (a ≡ front ++ b)
lexes_parts stop = ([], refl)
lexes_parts (space {c = c} is r) = let p = lexes_parts r in (c ∷ p.0, ap (λ z. c ∷ z) p.1)
lexes_parts {b = b} (comment xs all ends r) = let p = lexes_parts r in (47 ∷ 47 ∷ xs ++ p.0, ap (λ z. 47 ∷ 47 ∷ z) (ap (λ z. xs ++ z) p.1 ∙ sym (append_assoc xs p.0 b)))
lexes_parts {b = b} (token {xs = xs} spelled longest ends r) = let p = lexes_parts r in (xs ++ p.0, ap (λ z. xs ++ z) p.1 ∙ sym (append_assoc xs p.0 b))

some_len : (n : ℕ) (xs : List ℕ) (t : Token) → SpellsToken n xs t → 1 ≤ length xs
some_len n [] t spelled = absurd (spelled_some n t spelled)
some_len n (x ∷ xs) t spelled = omega arith

-- each token has a character
pub lexes_len : {n : ℕ} {a b : List ℕ} {ts : List Token} → Lexes n a ts b → length ts + length b ≤ length a
lexes_len stop = omega arith
lexes_len (space is r) = omega (arith, lexes_len r)
lexes_len (comment xs {ys = ys} all ends r) = omega (arith, lexes_len r, length-append xs ys)
lexes_len {n} (token {xs = xs} {ys = ys} {t = t} spelled longest ends r) = omega (arith, lexes_len r, length-append xs ys, some_len n xs t spelled)

-- a text has no more characters than bytes
pub chars_len : (text : List ℕ) → IsUtf8 text → length (chars text) ≤ length text
chars_len text u = omega (arith, length-le-encodes (chars text), ap length (encodes-chars text u))

pub front_shorter : (n : ℕ) (text rest : List ℕ) (t : Token) → IsFront n text t rest → length rest < length text
front_shorter n text rest t f = omega (arith, ap length f.parts, length-append f.front rest, some_len n f.front t f.spelled)

-- ---- what begins no blank

pub no_blank_nil : NoBlank []
no_blank_nil = record { no_space = λ c cs e. absurd cc; no_comment = λ cs e. absurd cc }

pub no_blank_other : (text behind : List ℕ) (c : ℕ) → text ≡ c ∷ behind → is_space c ≡ false → (c ≡ 47 → ⊥) → NoBlank text
no_blank_other text behind c e white other = record {
  no_space = λ d cs f. subst (λ v. is_space v ≡ false) (head_same c d behind cs (sym e ∙ f)) white;
  no_comment = λ cs f. other (head_same c 47 behind (47 ∷ cs) (sym e ∙ f));
}

pub no_blank_slash : (text behind : List ℕ) (c : ℕ) → text ≡ c ∷ behind → is_space c ≡ false → ((cs : List ℕ) → behind ≡ 47 ∷ cs → ⊥) → NoBlank text
no_blank_slash text behind c e white lone = record {
  no_space = λ d cs f. subst (λ v. is_space v ≡ false) (head_same c d behind cs (sym e ∙ f)) white;
  no_comment = λ cs f. lone cs (tail_same c 47 behind (47 ∷ cs) (sym e ∙ f));
}

-- ---- a byte at which no token begins

pub bad_at : (text rest : List ℕ) (ts : List Token) → IsUtf8 text → IsUtf8 rest → Lexes 1 (chars text) ts (chars rest) → NoBlank (chars rest) → NoToken (chars rest) → (chars rest ≡ [] → ⊥) → IsBadToken text (length text - length rest)
bad_at text rest ts u v r blank none more =
    let p = lexes_parts r in
    record {
      tokens = ts;
      front = p.0;
      rest = chars rest;
      parts = p.1;
      place = omega (arith, bytes_len text rest p.0 u v p.1);
      before = r;
      bad = record { more = more; no_token = none; no_space = blank.no_space; no_comment = blank.no_comment };
    }

pub chars_empty : (text : List ℕ) → IsUtf8 text → chars text ≡ [] → length text ≡ 0
chars_empty text u e = ap length (sym (encodes-chars text u) ∙ ap encode_utf8_all e)

pub not_empty : (text : List ℕ) → IsUtf8 text → false ≡ (length text == 0) → chars text ≡ [] → ⊥
not_empty text u some e = let none : length text ≡ 0 = chars_empty text u e in let test : false ≡ (0 == 0) = some ∙ ap (λ n. n == 0) none in absurd cc

pub lexes_all : {n : ℕ} {text : List ℕ} (rest : List ℕ) {ts : List Token} → Lexes n text ts (chars rest) → true ≡ (length rest == 0) → Lexes n text ts []
lexes_all {n} {text} rest {ts} r e = subst (λ z. Lexes n text ts z) (empty rest (same_if (length rest) 0 (sym e))) r
  where
    empty : (rest : List ℕ) → length rest ≡ 0 → chars rest ≡ []
    empty [] e = chars-nil
    empty (c ∷ cs) e = absurd (omega (arith, e))
