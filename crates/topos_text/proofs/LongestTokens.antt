-- How to see that no longer front of a text is a token, and that none is: by trying all.
use Rattle.std.proofs.Common.{◌≡◌, ℕ, suc, zero, ◌<◌, ◌≤◌, ◌+◌, ◌-◌, Bool, true, false, not, ◌||◌, ◌&&◌, List, [], ◌∷◌, ◌++◌, length, take, refl, arith, ap, sym, ◌∙◌, subst}
use Rattle.std.specs.Prelude.{is_some}
use Rattle.std.proofs.Math.Seq.{take-append_seam, take-append-add}
use Rattle.std.proofs.lemmas.List.{length-append}
use Rattle.std.proofs.lemmas.Bool.{or_left, or_right}
use Rattle.topos_text.specs.Spelling.{word_of, symbol_of, is_name, are_digits}
use Rattle.topos_text.specs.Tokens.{Token}
use Rattle.topos_text.specs.Lexing.{SpellsToken, word, symbol, place, name, IsLongest}

abbrev pub is_place : List ℕ → Bool
is_place [] = false
is_place (c ∷ cs) = are_digits cs

-- whether the characters may be a token
unfoldable pub may_be_token : List ℕ → Bool
may_be_token cs = is_some (word_of cs) || (is_some (symbol_of cs) || (is_place cs || is_name cs))

token_may_be : (n : ℕ) (cs : List ℕ) (t : Token) → SpellsToken n cs t → may_be_token cs ≡ true
unfolding may_be_token
token_may_be n cs t (word e) = rw e refl
token_may_be n cs t (symbol e) = or_right (is_some (word_of cs)) _ (rw e refl)
token_may_be n (c ∷ cs) t (place e) = or_right (is_some (word_of (c ∷ cs))) _ (or_right (is_some (symbol_of (c ∷ cs))) _ (or_left (are_digits cs) _ e))
token_may_be n cs t (name e none) = or_right (is_some (word_of cs)) _ (or_right (is_some (symbol_of cs)) _ (or_right (is_place cs) _ e))

-- none of the fronts longer than this one may be a token
unfoldable pub none_longer : List ℕ → List ℕ → Bool
none_longer front [] = true
none_longer front (c ∷ cs) = not (may_be_token (front ++ c ∷ [])) && none_longer (front ++ c ∷ []) cs

not_true : (b : Bool) → not b ≡ true → b ≡ true → ⊥
not_true true h e = absurd cc
not_true false h e = absurd cc

pub both_true : (a b : Bool) → a && b ≡ true → (a ≡ true) × (b ≡ true)
both_true true true e = (refl, refl)
both_true true false e = absurd cc
both_true false b e = absurd cc

append_more : (front : List ℕ) (c : ℕ) (cs : List ℕ) → (front ++ c ∷ []) ++ cs ≡ front ++ c ∷ cs
append_more [] c cs = refl
append_more (b ∷ front) c cs = ap (λ x. b ∷ x) (append_more front c cs)

-- m more characters behind the front and one
longer_is_none : (m : ℕ) (front cs : List ℕ) → none_longer front cs ≡ true → m < length cs → may_be_token (take (length front + (m + 1)) (front ++ cs)) ≡ true → ⊥
unfolding none_longer
longer_is_none m front [] h lt e = absurd (omega (arith, lt))
longer_is_none zero front (c ∷ cs) h lt e =
    not_true _ (both_true _ _ h).0 (subst (λ x. may_be_token x ≡ true) (take-append-add front (c ∷ cs) 1) e)
longer_is_none (suc m) front (c ∷ cs) h lt e =
    longer_is_none m (front ++ c ∷ []) cs (both_true _ _ h).1 (omega (arith, lt))
    (subst (λ x. may_be_token x ≡ true) (ap (λ n. take n (front ++ c ∷ cs)) (sizes) ∙ ap (λ x. take (length (front ++ c ∷ []) + (m + 1)) x) (sym (append_more front c cs))) e)
  where
    sizes : length front + (suc m + 1) ≡ length (front ++ c ∷ []) + (m + 1)
    sizes = omega (arith, length-append front (c ∷ []))

pub longest_if : (front cs : List ℕ) → none_longer front cs ≡ true → IsLongest (front ++ cs) front
longest_if front cs h n xs ys t is spelled = not_over (λ over. longer_is_none (length xs - (length front + 1)) front cs h (short over) (subst (λ x. may_be_token x ≡ true) (same over) (token_may_be n xs t spelled)))
  where
    not_over : (length front < length xs → ⊥) → length xs ≤ length front
    not_over over = omega (arith, over)

    short : length front < length xs → length xs - (length front + 1) < length cs
    short over = let lens : length xs + length ys ≡ length front + length cs = sym (length-append xs ys) ∙ ap length is ∙ length-append front cs in omega (arith, over, lens)

    same : length front < length xs → xs ≡ take (length front + (length xs - (length front + 1) + 1)) (front ++ cs)
    same over = sym (take-append_seam xs ys) ∙ ap (λ x. take (length xs) x) is ∙ ap (λ n. take n (front ++ cs)) (omega (arith, over))

-- no front may be a token
pub no_token_if : (text : List ℕ) → may_be_token [] ≡ false → none_longer [] text ≡ true → (n : ℕ) (xs ys : List ℕ) (t : Token) → xs ++ ys ≡ text → SpellsToken n xs t → ⊥
no_token_if text none h n [] ys t is spelled = let is_one : may_be_token [] ≡ true = token_may_be n [] t spelled in absurd cc
no_token_if text none h n (x ∷ xs) ys t is spelled = longer_is_none (length xs) [] text h short (subst (λ z. may_be_token z ≡ true) same (token_may_be n (x ∷ xs) t spelled))
  where
    short : length xs < length text
    short = let lens : length (x ∷ xs) + length ys ≡ length text = sym (length-append (x ∷ xs) ys) ∙ ap length is in omega (arith, lens)

    len : length (x ∷ xs) ≡ length {A = ℕ} [] + (length xs + 1)
    len = omega arith

    same : x ∷ xs ≡ take (length {A = ℕ} [] + (length xs + 1)) ([] ++ text)
    same = sym (take-append_seam (x ∷ xs) ys) ∙ ap (λ z. take (length (x ∷ xs)) z) is ∙ ap (λ n. take n text) len
