-- A text has one list of tokens.
use Rattle.std.proofs.Common.{◌≡◌, ◌⊎◌, inl, inr, ℕ, ◌+◌, ◌≤◌, Bool, true, false, ◌==◌, ◌||◌, List, [], ◌∷◌, ◌++◌, length, take, refl, sym, ap, subst, ◌∙◌, arith, Some, None}
use Rattle.std.specs.List.{list_all}
use Rattle.std.specs.Prelude.{IsUtf8, encode_utf8_all}
use Rattle.std.proofs.lemmas.List.{length-append}
use Rattle.std.specs.Str.{IsValidUpTo}
use Rattle.unicode_ident.proofs.Computing.{unicode_ident}
use Rattle.topos_text.specs.declared.word.Word.{Word}
use Rattle.topos_text.specs.declared.symbol.Symbol.{Symbol}
use Rattle.topos_text.specs.Spelling.{symbol_of, starts_name, continues_name, is_name}
use Rattle.topos_text.specs.Tokens.{Token, Reserved, Sign}
use Rattle.topos_text.specs.Lexing.{SpellsToken, word, symbol, place, name, IsLongest, EndsPlace, Lexes, stop, space, comment, token, is_space, is_no_line_feed, EndsComment, Lex, BeginsNothing, IsBadToken}
use Rattle.topos_tokens.proofs.Characters.{head_same, tail_same, first_true, second_true, is_absurd}
use Rattle.topos_tokens.proofs.Words.{word_is_name, same_if}
use Rattle.topos_tokens.proofs.Fronts.{name_start, spelled_some, as_place, as_symbol, symbol_start, symbol_no_place, place_no_start}

-- ---- the same characters are one token

some_same : (A : Type 0) (a b : A) → Some a ≡ Some b → a ≡ b
some_same A a b e = cc

name_not_symbol : (cs : List ℕ) (s : Symbol) → is_name cs ≡ true → symbol_of cs ≡ Some s → ⊥
unfolding is_name symbol_of
name_not_symbol [] s e f = absurd cc
name_not_symbol (c ∷ cs) s e f = is_absurd (starts_name c) (first_true (starts_name c) (list_all continues_name cs) e) (symbol_start c cs s f)

pub same_token : (n : ℕ) (cs : List ℕ) (t u : Token) → SpellsToken n cs t → SpellsToken n cs u → t ≡ u
same_token n cs t u (word {w = w} e) (word {w = v} f) = ap Reserved (some_same Word w v (sym e ∙ f))
same_token n cs t u (word {w = w} e) (symbol {s = s} f) = absurd (name_not_symbol cs s (word_is_name cs w e) f)
same_token n (c ∷ cs) t u (word {w = w} e) (place f) = absurd (is_absurd (starts_name 35) (name_start 35 cs (word_is_name (35 ∷ cs) w e)) place_no_start)
same_token n cs t u (word {w = w} e) (name f none) = let bad : Some w ≡ None = sym e ∙ none in absurd cc
same_token n cs t u (symbol {s = s} e) (word {w = w} f) = absurd (name_not_symbol cs s (word_is_name cs w f) e)
same_token n cs t u (symbol {s = s} e) (symbol {s = r} f) = ap Sign (some_same Symbol s r (sym e ∙ f))
same_token n (c ∷ cs) t u (symbol {s = s} e) (place f) = absurd (symbol_no_place cs s e)
same_token n cs t u (symbol {s = s} e) (name f none) = absurd (name_not_symbol cs s f e)
same_token n (c ∷ cs) t u (place e) d = sym (as_place n cs u d).1
same_token n cs t u (name e none) (word {w = w} f) = let bad : Some w ≡ None = sym f ∙ none in absurd cc
same_token n cs t u (name e none) (symbol {s = s} f) = absurd (name_not_symbol cs s e f)
same_token n (c ∷ cs) t u (name e none) (place f) = absurd (is_absurd (starts_name 35) (name_start 35 cs e) place_no_start)
same_token n cs t u (name e none) (name f none_too) = refl

-- ---- white space and comments begin no token

or_cases : (a b : Bool) → (a || b) ≡ true → (a ≡ true) ⊎ (b ≡ true)
or_cases true b e = inl refl
or_cases false b e = inr e

space_cases : (c : ℕ) → is_space c ≡ true → (c ≡ 32) ⊎ ((c ≡ 9) ⊎ ((c ≡ 10) ⊎ (c ≡ 13)))
space_cases c e = elim (or_cases ((c == 32) || (c == 9) || (c == 10)) (c == 13) e) [
  | inl f ↦ elim (or_cases ((c == 32) || (c == 9)) (c == 10) f) [
    | inl g ↦ elim (or_cases (c == 32) (c == 9) g) [
      | inl a ↦ inl (same_if c 32 a)
      | inr a ↦ inr (inl (same_if c 9 a))
    ]
    | inr a ↦ inr (inr (inl (same_if c 10 a)))
  ]
  | inr a ↦ inr (inr (inr (same_if c 13 a)))
]

-- a character with which no token begins
record NoStart (c : ℕ) : Type 0 where
  no_name : starts_name c ≡ false
  no_place : c ≡ 35 → ⊥
  no_symbol : (cs : List ℕ) → symbol_of (c ∷ cs) ≡ None

no_start_32 : NoStart 32
unfolding unicode_ident symbol_of
no_start_32 = record { no_name = refl; no_place = λ e. absurd (omega (arith, e)); no_symbol = λ cs. refl }

no_start_9 : NoStart 9
unfolding unicode_ident symbol_of
no_start_9 = record { no_name = refl; no_place = λ e. absurd (omega (arith, e)); no_symbol = λ cs. refl }

no_start_10 : NoStart 10
unfolding unicode_ident symbol_of
no_start_10 = record { no_name = refl; no_place = λ e. absurd (omega (arith, e)); no_symbol = λ cs. refl }

no_start_13 : NoStart 13
unfolding unicode_ident symbol_of
no_start_13 = record { no_name = refl; no_place = λ e. absurd (omega (arith, e)); no_symbol = λ cs. refl }

no_start_47 : NoStart 47
unfolding unicode_ident symbol_of
no_start_47 = record { no_name = refl; no_place = λ e. absurd (omega (arith, e)); no_symbol = λ cs. refl }

space_starts_none : (c : ℕ) → is_space c ≡ true → NoStart c
space_starts_none c e = elim (space_cases c e) [
  | inl a ↦ subst NoStart (sym a) no_start_32
  | inr f ↦ elim f [
    | inl a ↦ subst NoStart (sym a) no_start_9
    | inr g ↦ elim g [
      | inl a ↦ subst NoStart (sym a) no_start_10
      | inr a ↦ subst NoStart (sym a) no_start_13
    ]
  ]
]

no_token_at : (n : ℕ) (c : ℕ) (cs xs ys : List ℕ) (t : Token) → NoStart c → xs ++ ys ≡ c ∷ cs → SpellsToken n xs t → ⊥
no_token_at n c cs [] ys t s e d = spelled_some n t d
no_token_at n c cs (x ∷ xs) ys t s e d =
    let found = as_symbol n c xs t s.no_name s.no_place (subst (λ z. SpellsToken n (z ∷ xs) t) (head_same x c (xs ++ ys) cs e) d) in
    let none : symbol_of (c ∷ xs) ≡ None = s.no_symbol xs in
    let is : symbol_of (c ∷ xs) ≡ Some found.0 = found.1 in
    let bad : None ≡ Some found.0 = sym none ∙ is in
    absurd cc

-- ---- one front

pub same_front : (xs ys vs ws : List ℕ) → xs ++ ys ≡ vs ++ ws → length xs ≡ length vs → (xs ≡ vs) × (ys ≡ ws)
same_front [] ys [] ws e len = (refl, e)
same_front [] ys (v ∷ vs) ws e len = absurd (omega (arith, len))
same_front (x ∷ xs) ys [] ws e len = absurd (omega (arith, len))
same_front (x ∷ xs) ys (v ∷ vs) ws e len =
    let more = same_front xs ys vs ws (tail_same x v (xs ++ ys) (vs ++ ws) e) (omega (arith, len)) in
    (ap (λ z. z ∷ xs) (head_same x v (xs ++ ys) (vs ++ ws) e) ∙ ap (λ z. v ∷ z) more.0, more.1)

-- a comment's characters up to the line feed
same_comment : (xs ys vs ws : List ℕ) → list_all is_no_line_feed xs ≡ true → EndsComment ys → list_all is_no_line_feed vs ≡ true → EndsComment ws → xs ++ ys ≡ vs ++ ws → ys ≡ ws
same_comment [] ys [] ws a e b f is = is
same_comment [] [] (v ∷ vs) ws a e b f is = absurd cc
same_comment [] (y ∷ ys) (v ∷ vs) ws a e b f is =
    let bad : is_no_line_feed 10 ≡ true = subst (λ z. is_no_line_feed z ≡ true) (sym (head_same y v ys (vs ++ ws) is) ∙ e) (first_true (is_no_line_feed v) (list_all is_no_line_feed vs) b) in absurd cc
same_comment (x ∷ xs) ys [] [] a e b f is = absurd cc
same_comment (x ∷ xs) ys [] (w ∷ ws) a e b f is =
    let bad : is_no_line_feed 10 ≡ true = subst (λ z. is_no_line_feed z ≡ true) (head_same x w (xs ++ ys) ws is ∙ f) (first_true (is_no_line_feed x) (list_all is_no_line_feed xs) a) in absurd cc
same_comment (x ∷ xs) ys (v ∷ vs) ws a e b f is =
    same_comment xs ys vs ws (second_true (is_no_line_feed x) (list_all is_no_line_feed xs) a) e (second_true (is_no_line_feed v) (list_all is_no_line_feed vs) b) f (tail_same x v (xs ++ ys) (vs ++ ws) is)

-- what the first step on a text was
data Step (n : ℕ) (text : List ℕ) (ts : List Token) (rest : List ℕ) : Type 0 where
  ended : ts ≡ [] → text ≡ rest → Step n text ts rest
  spaced : (c : ℕ) (cs : List ℕ) → text ≡ c ∷ cs → is_space c ≡ true → Lexes n cs ts rest → Step n text ts rest
  commented : (xs ys : List ℕ) → text ≡ 47 ∷ 47 ∷ xs ++ ys → list_all is_no_line_feed xs ≡ true → EndsComment ys → Lexes n ys ts rest → Step n text ts rest
  took : (xs ys : List ℕ) (t : Token) (us : List Token) → text ≡ xs ++ ys → ts ≡ t ∷ us → SpellsToken n xs t → IsLongest (xs ++ ys) xs → EndsPlace t ys → Lexes (n + 1) ys us rest → Step n text ts rest

step : {n : ℕ} {text rest : List ℕ} {ts : List Token} → Lexes n text ts rest → Step n text ts rest
step stop = ended refl refl
step (space {c = c} {cs = cs} is r) = spaced c cs refl is r
step (comment xs {ys = ys} all ends r) = commented xs ys refl all ends r
step (token {xs = xs} {ys = ys} {t = t} {ts = us} spelled longest ends r) = took xs ys t us refl refl spelled longest ends r

space_step : (n : ℕ) (c : ℕ) (cs rest : List ℕ) (ts : List Token) (Q : Type 0) → is_space c ≡ true → Step n (c ∷ cs) ts rest → (Lexes n cs ts rest → Q) → (ts ≡ [] → c ∷ cs ≡ rest → Q) → Q
space_step n c cs rest ts Q is (ended none at) on stops = stops none at
space_step n c cs rest ts Q is (spaced d ds e is_too r) on stops = on (subst (λ z. Lexes n z ts rest) (sym (tail_same c d cs ds e)) r)
space_step n c cs rest ts Q is (commented xs ys e all ends r) on stops = let bad : is_space 47 ≡ true = subst (λ z. is_space z ≡ true) (head_same c 47 cs (47 ∷ xs ++ ys) e) is in absurd cc
space_step n c cs rest ts Q is (took xs ys t us e f spelled longest ends r) on stops = absurd (no_token_at n c cs xs ys t (space_starts_none c is) (sym e) spelled)

comment_step : (n : ℕ) (xs ys rest : List ℕ) (ts : List Token) (Q : Type 0) → list_all is_no_line_feed xs ≡ true → EndsComment ys → Step n (47 ∷ 47 ∷ xs ++ ys) ts rest → (Lexes n ys ts rest → Q) → (ts ≡ [] → 47 ∷ 47 ∷ xs ++ ys ≡ rest → Q) → Q
comment_step n xs ys rest ts Q all ends (ended none at) on stops = stops none at
comment_step n xs ys rest ts Q all ends (spaced d ds e is r) on stops = let bad : is_space 47 ≡ true = subst (λ z. is_space z ≡ true) (sym (head_same 47 d (47 ∷ xs ++ ys) ds e)) is in absurd cc
comment_step n xs ys rest ts Q all ends (commented vs ws e all_too ends_too r) on stops =
    on (subst (λ z. Lexes n z ts rest) (sym (same_comment xs ys vs ws all ends all_too ends_too (tail_same 47 47 (xs ++ ys) (vs ++ ws) (tail_same 47 47 (47 ∷ xs ++ ys) (47 ∷ vs ++ ws) e)))) r)
comment_step n xs ys rest ts Q all ends (took vs ws t us e f spelled longest place_ends r) on stops = absurd (no_token_at n 47 (47 ∷ xs ++ ys) vs ws t no_start_47 (sym e) spelled)

token_step : (n : ℕ) (xs ys rest : List ℕ) (t : Token) (ts : List Token) (Q : Type 0) → SpellsToken n xs t → IsLongest (xs ++ ys) xs → Step n (xs ++ ys) ts rest
    → ((us : List Token) → ts ≡ t ∷ us → Lexes (n + 1) ys us rest → Q) → (ts ≡ [] → xs ++ ys ≡ rest → Q) → Q
token_step n xs ys rest t ts Q spelled longest (ended none at) on stops = stops none at
token_step n xs ys rest t ts Q spelled longest (spaced d ds e is r) on stops = absurd (no_token_at n d ds xs ys t (space_starts_none d is) e spelled)
token_step n xs ys rest t ts Q spelled longest (commented vs ws e all ends r) on stops = absurd (no_token_at n 47 (47 ∷ vs ++ ws) xs ys t no_start_47 e spelled)
token_step n xs ys rest t ts Q spelled longest (took vs ws u us e f spelled_too longest_too ends r) on stops =
    let le : length vs ≤ length xs = longest n vs ws u (sym e) spelled_too in
    let ge : length xs ≤ length vs = longest_too n xs ys t e spelled in
    let same = same_front xs ys vs ws e (omega (arith, le, ge)) in
    let one : u ≡ t = same_token n xs u t (subst (λ z. SpellsToken n z u) (sym same.0) spelled_too) spelled in
    on us (f ∙ ap (λ z. z ∷ us) one) (subst (λ z. Lexes (n + 1) z us rest) (sym same.1) r)

nil_rest : {n : ℕ} {rest : List ℕ} {ts : List Token} (text : List ℕ) → text ≡ [] → Lexes n text ts rest → (rest ≡ []) × (ts ≡ [])
nil_rest text e stop = (e, refl)
nil_rest text e (space is r) = absurd cc
nil_rest text e (comment xs all ends r) = absurd cc
nil_rest text e (token {xs = []} {t = t} spelled longest ends r) = absurd (spelled_some _ t spelled)
nil_rest text e (token {xs = x ∷ xs} spelled longest ends r) = absurd cc

not_nil : (n : ℕ) (xs ys : List ℕ) (t : Token) → SpellsToken n xs t → xs ++ ys ≡ [] → ⊥
not_nil n [] ys t d e = spelled_some n t d
not_nil n (x ∷ xs) ys t d e = absurd cc

-- To the end there is one list of tokens, and where nothing begins no list goes on to the end.
pub to_end : {n : ℕ} {text last : List ℕ} {ts : List Token} → Lexes n text ts last → last ≡ [] → (us : List Token) (rest : List ℕ) → Lexes n text us rest → ((rest ≡ []) × (us ≡ ts)) ⊎ ((rest ≡ [] → ⊥) × (BeginsNothing rest → ⊥))
to_end {text = text} stop e us rest r = inl (nil_rest text e r)
to_end {n} (space {c = c} {cs = cs} is d) e us rest r =
    space_step n c cs rest us _ is (step r) (λ q. to_end d e us rest q) (λ none at. inr (λ z. absurd cc, λ b. is_absurd (is_space c) is (b.no_space c cs (sym at))))
to_end {n} (comment xs {ys = ys} all ends d) e us rest r =
    comment_step n xs ys rest us _ all ends (step r) (λ q. to_end d e us rest q) (λ none at. inr (λ z. absurd cc, λ b. b.no_comment (xs ++ ys) (sym at)))
to_end {n} (token {xs = xs} {ys = ys} {t = t} {ts = ts} spelled longest ends d) e us rest r =
    token_step n xs ys rest t us _ spelled longest (step r)
    (λ vs is q. elim (to_end d e vs rest q) [
      | inl (a, same) ↦ inl (a, is ∙ ap (λ z. t ∷ z) same)
      | inr other ↦ inr other
    ])
    (λ none at. inr (λ z. not_nil n xs ys t spelled (at ∙ z), λ b. b.no_token n xs ys t at spelled (subst (λ z. IsLongest z xs) at longest) ends))

pub tokens_are_unique : (bytes : List ℕ) (xs ys : List Token) → Lex bytes xs → Lex bytes ys → xs ≡ ys
tokens_are_unique bytes xs ys (u, d) (v, e) = elim (to_end e refl xs [] d) [
  | inl (none, same) ↦ same
  | inr other ↦ absurd (other.0 refl)
]

-- a text with tokens to its end has no place at which none begins
pub no_bad_token : (text : List ℕ) (ts us : List Token) (rest : List ℕ) → Lexes 1 text ts [] → Lexes 1 text us rest → BeginsNothing rest → ⊥
no_bad_token text ts us rest d e b = elim (to_end d refl us rest e) [
  | inl (none, same) ↦ b.more none
  | inr other ↦ other.1 b
]

take_all : (xs : List ℕ) → take (length xs) xs ≡ xs
take_all [] = refl
take_all (x ∷ xs) = ap (λ z. x ∷ z) (take_all xs)

pub text_is_valid : (bytes : List ℕ) (n : ℕ) → IsValidUpTo bytes n → IsUtf8 bytes → ⊥
text_is_valid bytes n v u = v.longest (length bytes) v.short (subst IsUtf8 (sym (take_all bytes)) u)

-- the place at which no token begins is one
pub to_bad_rest : {n : ℕ} {text last : List ℕ} {ts : List Token} → Lexes n text ts last → BeginsNothing last → (us : List Token) (rest : List ℕ) → Lexes n text us rest → BeginsNothing rest → rest ≡ last
to_bad_rest {n} {text = text} stop b us rest r c = elim (step r) [
  | ended none at ↦ sym at
  | spaced d ds e is q ↦ absurd (is_absurd (is_space d) is (b.no_space d ds e))
  | commented xs ys e all ends q ↦ absurd (b.no_comment (xs ++ ys) e)
  | took xs ys t vs e f spelled longest ends q ↦ absurd (b.no_token n xs ys t (sym e) spelled (subst (λ z. IsLongest z xs) (sym e) longest) ends)
]
to_bad_rest {n} (space {c = d} {cs = ds} is r) b us rest q c =
    space_step n d ds rest us _ is (step q) (λ p. to_bad_rest r b us rest p c) (λ none at. absurd (is_absurd (is_space d) is (c.no_space d ds (sym at))))
to_bad_rest {n} (comment xs {ys = ys} all ends r) b us rest q c =
    comment_step n xs ys rest us _ all ends (step q) (λ p. to_bad_rest r b us rest p c) (λ none at. absurd (c.no_comment (xs ++ ys) (sym at)))
to_bad_rest {n} (token {xs = xs} {ys = ys} {t = t} spelled longest ends r) b us rest q c =
    token_step n xs ys rest t us _ spelled longest (step q) (λ vs is p. to_bad_rest r b vs rest p c)
    (λ none at. absurd (c.no_token n xs ys t at spelled (subst (λ z. IsLongest z xs) at longest) ends))

pub bad_tokens_are_one : (bytes : List ℕ) (m n : ℕ) → IsBadToken bytes m → IsBadToken bytes n → m ≡ n
bad_tokens_are_one bytes m n a b =
    let rest = to_bad_rest a.before a.bad b.tokens b.rest b.before b.bad in
    let parts : a.front ++ a.rest ≡ b.front ++ b.rest = sym a.parts ∙ b.parts in
    let len : length a.front ≡ length b.front = omega (arith, ap length parts, ap length rest, length-append a.front a.rest, length-append b.front b.rest) in
    a.place ∙ ap (λ z. length (encode_utf8_all z)) (same_front a.front a.rest b.front b.rest parts len).0 ∙ sym b.place
