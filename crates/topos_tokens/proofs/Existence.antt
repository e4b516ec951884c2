-- Each text has tokens to its end, or a place at which none begins.
use Rattle.std.proofs.Common.{◌≡◌, ◌⊎◌, inl, inr, ℕ, zero, suc, ◌+◌, ◌≤◌, ◌<◌, true, false, ◌==◌, eqb, List, [], ◌∷◌, ◌++◌, length, take, drop, Option, Some, None, refl, sym, ap, subst, ◌∙◌, arith, append_assoc}
use Rattle.std.specs.List.{list_all}
use Rattle.std.specs.Prelude.{IsUtf8, chars, encode_utf8_all}
use Rattle.std.specs.Str.{IsValidUpTo, is_utf8}
use Rattle.std.proofs.lemmas.Bool.{cases_Bool, cases_lt, eqb-true, eq-eqb}
use Rattle.std.proofs.lemmas.List.{length-append, take_all}
use Rattle.std.proofs.lemmas.Str.{IsUtf8-nil, IsUtf8-from_is_utf8, is_utf8-from_IsUtf8}
use Rattle.topos_text.specs.Spelling.{word_of, symbol_of, is_name, is_digit, are_digits, number_of}
use Rattle.topos_text.specs.Tokens.{Token, Written, Name, Place, Reserved, Sign}
use Rattle.topos_text.specs.Lexing.{SpellsToken, word, symbol, place, name, written_as, IsLongest, EndsPlace, Lexes, stop, space, comment, token, is_space, is_no_line_feed, EndsComment, Lex, BeginsNothing, IsBadToken}
use Rattle.topos_tokens.proofs.Fronts.{spelled_some}
use Rattle.topos_tokens.proofs.Uniqueness.{same_front, same_token}
use Rattle.topos_tokens.proofs.Words.{same_if}

-- ---- bytes

not_utf8 : (bytes : List ℕ) → is_utf8 bytes ≡ false → IsUtf8 bytes → ⊥
not_utf8 bytes e u = let t = is_utf8-from_IsUtf8 bytes u in cc

valid_up_to_some : (bytes : List ℕ) (k : ℕ) → k < length bytes → ((m : ℕ) → k < m → IsUtf8 (take m bytes) → ⊥) → (n : ℕ) × IsValidUpTo bytes n
valid_up_to_some bytes zero low longer = (0, record { short = low; front = IsUtf8-nil; longest = longer })
valid_up_to_some bytes (suc k) low longer =
    elim (cases_Bool (is_utf8 (take (suc k) bytes))) [
      | inl e ↦ (suc k, record { short = low; front = IsUtf8-from_is_utf8 (take (suc k) bytes) e; longest = longer })
      | inr e ↦ valid_up_to_some bytes k (omega arith) (λ m h u. elim (cases_lt (suc k) m) [
        | inl l ↦ longer m l u
        | inr g ↦ not_utf8 (take (suc k) bytes) e (let is : m ≡ suc k = omega arith in subst (λ j. IsUtf8 (take j bytes)) is u)
      ])
    ]

pub text_or_not : (bytes : List ℕ) → IsUtf8 bytes ⊎ ((n : ℕ) × IsValidUpTo bytes n)
text_or_not [] = inl IsUtf8-nil
text_or_not (b ∷ bytes) =
    elim (cases_Bool (is_utf8 (b ∷ bytes))) [
      | inl e ↦ inl (IsUtf8-from_is_utf8 (b ∷ bytes) e)
      | inr e ↦ inr (valid_up_to_some (b ∷ bytes) (length bytes) (omega arith) (λ m h u. not_utf8 (b ∷ bytes) e (subst IsUtf8 (take_all m (b ∷ bytes) (omega arith)) u)))
    ]

-- ---- the characters of a token

abbrev Spelled : ℕ → List ℕ → Type 0
Spelled n cs = (t : Token) × SpellsToken n cs t

none_or_some : {A : Type 0} (a : Option A) → ((x : A) × (a ≡ Some x)) ⊎ (a ≡ None)
none_or_some (Some x) = inl (x, refl)
none_or_some None = inr refl

spelled : (n : ℕ) (cs : List ℕ) → Spelled n cs ⊎ (Spelled n cs → ⊥)
spelled n cs =
    elim (none_or_some (word_of cs)) [
      | inl (w, e) ↦ inl (Reserved w, word e)
      | inr no_word ↦ elim (none_or_some (symbol_of cs)) [
        | inl (s, e) ↦ inl (Sign s, symbol e)
        | inr no_symbol ↦ elim (cases_Bool (is_name cs)) [
          | inl e ↦ inl (Name (written_as n cs), name e no_word)
          | inr no_name ↦ place_or_none cs no_word no_symbol no_name
        ]
      ]
    ]
  where
    none_of : (cs : List ℕ) (t : Token) → word_of cs ≡ None → symbol_of cs ≡ None → is_name cs ≡ false → ((ds : List ℕ) → cs ≡ 35 ∷ ds → are_digits ds ≡ false) → SpellsToken n cs t → ⊥
    none_of cs t no_word no_symbol no_name no_place (word e) = absurd (cc)
    none_of cs t no_word no_symbol no_name no_place (symbol e) = absurd (cc)
    none_of cs t no_word no_symbol no_name no_place (name e f) = absurd (cc)
    none_of cs t no_word no_symbol no_name no_place (place {cs = ds} e) = let f = no_place ds refl in absurd (cc)

    place_or_none : (cs : List ℕ) → word_of cs ≡ None → symbol_of cs ≡ None → is_name cs ≡ false → Spelled n cs ⊎ (Spelled n cs → ⊥)
    place_or_none [] no_word no_symbol no_name = inr (λ (t, d). spelled_some n t d)
    place_or_none (c ∷ cs) no_word no_symbol no_name =
        elim (cases_Bool (eqb c 35)) [
          | inl e ↦ elim (cases_Bool (are_digits cs)) [
            | inl d ↦ inl (subst (λ z. Spelled n (z ∷ cs)) (sym (eqb-true c 35 e)) (Place (number_of cs) (written_as n (35 ∷ cs)), place d))
            | inr d ↦ inr (λ (t, h). none_of (c ∷ cs) t no_word no_symbol no_name (λ ds f. let g : cs ≡ ds = cc in subst (λ z. are_digits z ≡ false) g d) h)
          ]
          | inr e ↦ inr (λ (t, h). none_of (c ∷ cs) t no_word no_symbol no_name (λ ds f. let g : c ≡ 35 = cc in let t = eq-eqb c 35 g in absurd (cc)) h)
        ]

-- the number of a token does not matter
renumbered : (m n : ℕ) (cs : List ℕ) (t : Token) → SpellsToken m cs t → Spelled n cs
renumbered m n cs t (word {w = w} e) = (Reserved w, word e)
renumbered m n cs t (symbol {s = s} e) = (Sign s, symbol e)
renumbered m n cs t (place {cs = ds} e) = (Place (number_of ds) (written_as n (35 ∷ ds)), place e)
renumbered m n cs t (name e f) = (Name (written_as n cs), name e f)

-- ---- the longest front that is a token

record Longest (n : ℕ) (text : List ℕ) : Type 0 where
  front : List ℕ
  behind : List ℕ
  parts : front ++ behind ≡ text
  tok : Token
  spells : SpellsToken n front tok
  longest : IsLongest text front

parts_at : (text : List ℕ) (k : ℕ) → take k text ++ drop k text ≡ text
parts_at text zero = refl
parts_at [] (suc k) = refl
parts_at (c ∷ text) (suc k) = ap (λ z. c ∷ z) (parts_at text k)

take_long : (text : List ℕ) (k : ℕ) → k ≤ length text → length (take k text) ≡ k
take_long text zero low = refl
take_long [] (suc k) low = absurd (omega arith)
take_long (c ∷ text) (suc k) low = ap suc (take_long text k (omega arith))

-- no front with more characters is a token
abbrev NoneLonger : ℕ → List ℕ → ℕ → Type 0
NoneLonger n text k = (xs ys : List ℕ) → xs ++ ys ≡ text → k < length xs → Spelled n xs → ⊥

longest_up_to : (n : ℕ) (text : List ℕ) (k : ℕ) → k ≤ length text → NoneLonger n text k → Longest n text ⊎ ((xs ys : List ℕ) → xs ++ ys ≡ text → Spelled n xs → ⊥)
longest_up_to n text zero low longer =
    inr (λ xs ys e s. elim (cases_lt 0 (length xs)) [
      | inl some ↦ longer xs ys e some s
      | inr none ↦ no_characters xs (omega arith) s
    ])
  where
    no_characters : (xs : List ℕ) → length xs ≤ 0 → Spelled n xs → ⊥
    no_characters [] h (t, d) = spelled_some n t d
    no_characters (x ∷ xs) h s = absurd (omega arith)
longest_up_to n text (suc k) low longer =
    let whole = parts_at text (suc k) in
    let long = take_long text (suc k) low in
    elim (spelled n (take (suc k) text)) [
      | inl (t, d) ↦ inl (record {
        front = take (suc k) text;
        behind = drop (suc k) text;
        parts = whole;
        tok = t;
        spells = d;
        longest = λ m xs ys u e s. elim (cases_lt (suc k) (length xs)) [
          | inl l ↦ absurd (longer xs ys e l (renumbered m n xs u s))
          | inr g ↦ omega arith
        ];
      })
      | inr none ↦ longest_up_to n text k (omega arith) (λ xs ys e h s. elim (cases_lt (suc k) (length xs)) [
        | inl l ↦ longer xs ys e l s
        | inr g ↦ none (subst (Spelled n) (same_front xs ys (take (suc k) text) (drop (suc k) text) (e ∙ sym whole) (omega arith)).0 s)
      ])
    ]

longest_front : (n : ℕ) (text : List ℕ) → Longest n text ⊎ ((xs ys : List ℕ) → xs ++ ys ≡ text → Spelled n xs → ⊥)
longest_front n text = longest_up_to n text (length text) (omega arith) (λ xs ys e h s. let l = length-append xs ys in let f = ap length e in absurd (omega arith))

ends_place : (t : Token) (ys : List ℕ) → EndsPlace t ys ⊎ (EndsPlace t ys → ⊥)
ends_place (Place n x) [] = inl tt
ends_place (Place n x) (c ∷ cs) = elim (cases_Bool (is_digit c)) [ inl e ↦ inr (λ f. cc) | inr e ↦ inl e ]
ends_place (Name x) ys = inl tt
ends_place (Reserved w) ys = inl tt
ends_place (Sign s) ys = inl tt

any_place : (n : ℕ) (x y : Written) (ys : List ℕ) → EndsPlace (Place n x) ys → EndsPlace (Place n y) ys
any_place n x y [] p = tt
any_place n x y (c ∷ cs) p = p

-- whether digits follow does not depend on the number of a token
place_too : (m n : ℕ) (cs ys : List ℕ) (t u : Token) → SpellsToken m cs t → SpellsToken n cs u → EndsPlace t ys → EndsPlace u ys
place_too m n cs ys t u d (word e) p = tt
place_too m n cs ys t u d (symbol e) p = tt
place_too m n cs ys t u d (name e f) p = tt
place_too m n cs ys t u d (place {cs = ds} e) p =
    any_place (number_of ds) (written_as m (35 ∷ ds)) (written_as n (35 ∷ ds)) ys (subst (λ z. EndsPlace z ys) (same_token m (35 ∷ ds) t (Place (number_of ds) (written_as m (35 ∷ ds))) d (place e)) p)

-- ---- comments

record CommentText (text : List ℕ) : Type 0 where
  front : List ℕ
  behind : List ℕ
  parts : front ++ behind ≡ text
  all : list_all is_no_line_feed front ≡ true
  ends : EndsComment behind

comment_text : (text : List ℕ) → CommentText text
comment_text [] = record { front = []; behind = []; parts = refl; all = refl; ends = tt }
comment_text (c ∷ cs) =
    elim (cases_Bool (c == 10)) [
      | inl e ↦ record { front = []; behind = c ∷ cs; parts = refl; all = refl; ends = same_if c 10 e }
      | inr e ↦
          let rest = comment_text cs in
          record { front = c ∷ rest.front; behind = rest.behind; parts = ap (λ z. c ∷ z) rest.parts; all = rw e rest.all; ends = rest.ends }
    ]

-- ---- to the end of the text, or to where nothing begins

data Lexed (n : ℕ) (text : List ℕ) : Type 0 where
  whole : (toks : List Token) → Lexes n text toks [] → Lexed n text
  stuck : (toks : List Token) (front rest : List ℕ) → text ≡ front ++ rest → Lexes n text toks rest → BeginsNothing rest → Lexed n text

-- what is lexed behind some characters
behind_characters : (n m : ℕ) (text front behind : List ℕ) (before : List Token) → front ++ behind ≡ text → ((toks : List Token) (rest : List ℕ) → Lexes m behind toks rest → Lexes n text (before ++ toks) rest) → Lexed m behind → Lexed n text
behind_characters n m text front behind before e more (whole toks d) = whole (before ++ toks) (more toks [] d)
behind_characters n m text front behind before e more (stuck toks xs rest f d b) =
    stuck (before ++ toks) (front ++ xs) rest (sym e ∙ ap (λ z. front ++ z) f ∙ sym (append_assoc front xs rest)) (more toks rest d) b

data Blank (text : List ℕ) : Type 0 where
  none_left : text ≡ [] → Blank text
  a_space : (c : ℕ) (cs : List ℕ) → text ≡ c ∷ cs → is_space c ≡ true → Blank text
  a_comment : (cs : List ℕ) → text ≡ 47 ∷ 47 ∷ cs → Blank text
  no_blank : (text ≡ [] → ⊥) → ((c : ℕ) (cs : List ℕ) → text ≡ c ∷ cs → is_space c ≡ false) → ((cs : List ℕ) → text ≡ 47 ∷ 47 ∷ cs → ⊥) → Blank text

first_same : (c d : ℕ) (cs ds : List ℕ) → c ∷ cs ≡ d ∷ ds → c ≡ d
first_same c d cs ds e = cc

blank : (text : List ℕ) → Blank text
blank [] = none_left refl
blank (c ∷ []) =
    elim (cases_Bool (is_space c)) [
      | inl e ↦ a_space c [] refl e
      | inr e ↦ no_blank (λ h. cc) (λ d ds h. subst (λ z. is_space z ≡ false) (first_same c d [] ds h) e) (λ cs h. cc)
    ]
blank (c ∷ d ∷ cs) =
    elim (cases_Bool (is_space c)) [
      | inl e ↦ a_space c (d ∷ cs) refl e
      | inr e ↦ elim (cases_Bool (eqb c 47)) [
        | inl f ↦ elim (cases_Bool (eqb d 47)) [
          | inl g ↦ a_comment cs (let a = eqb-true c 47 f in let b = eqb-true d 47 g in rw (a, b) refl)
          | inr g ↦ no_blank (λ h. cc) (λ x xs h. subst (λ z. is_space z ≡ false) (first_same c x (d ∷ cs) xs h) e) (λ xs h. let b : d ≡ 47 = cc in let t = eq-eqb d 47 b in cc)
        ]
        | inr f ↦ no_blank (λ h. cc) (λ x xs h. subst (λ z. is_space z ≡ false) (first_same c x (d ∷ cs) xs h) e) (λ xs h. let b : c ≡ 47 = cc in let t = eq-eqb c 47 b in cc)
      ]
    ]

token_shorter : (n : ℕ) (xs ys text : List ℕ) (t : Token) → SpellsToken n xs t → xs ++ ys ≡ text → length ys < length text
token_shorter n [] ys text t d e = absurd (spelled_some n t d)
token_shorter n (x ∷ xs) ys text t d e = let l = length-append xs ys in let f = ap length e in omega arith

lexed : (fuel n : ℕ) (text : List ℕ) → length text ≤ fuel → Lexed n text
lexed zero n [] few = whole [] stop
lexed zero n (c ∷ text) few = absurd (omega arith)
lexed (suc fuel) n text few =
    elim (blank text) [
      | none_left e ↦ subst (Lexed n) (sym e) (whole [] stop)
      | a_space c cs e is ↦
          let rest = lexed fuel n cs (let f = ap length e in omega arith) in
          behind_characters n n text (c ∷ []) cs [] (sym e) (λ toks r d. subst (λ z. Lexes n z toks r) (sym e) (space is d)) rest
      | a_comment cs e ↦
          let inside = comment_text cs in
          let same : 47 ∷ 47 ∷ inside.front ++ inside.behind ≡ text = ap (λ z. 47 ∷ 47 ∷ z) inside.parts ∙ sym e in
          let rest = lexed fuel n inside.behind (let f = ap length same in let l = length-append inside.front inside.behind in omega arith) in
          behind_characters n n text (47 ∷ 47 ∷ inside.front) inside.behind [] same (λ toks r d. subst (λ z. Lexes n z toks r) same (comment inside.front inside.all inside.ends d)) rest
      | no_blank some no_space no_comment ↦ elim (longest_front n text) [
        | inr none ↦ stuck [] [] text refl stop (record { more = some; no_token = λ m xs ys t e d l p. none xs ys e (renumbered m n xs t d); no_space = no_space; no_comment = no_comment })
        | inl found ↦ elim (ends_place found.tok found.behind) [
          | inl ends ↦
              let rest = lexed fuel (n + 1) found.behind (let l = token_shorter n found.front found.behind text found.tok found.spells found.parts in omega arith) in
              behind_characters n (n + 1) text found.front found.behind (found.tok ∷ []) found.parts
              (λ toks r d. subst (λ z. Lexes n z (found.tok ∷ toks) r) found.parts (token found.spells (subst (λ z. IsLongest z found.front) (sym found.parts) found.longest) ends d)) rest
          | inr goes_on ↦ stuck [] [] text refl stop (record {
            more = some;
            no_token = λ m xs ys t e d l p. goes_on (ended m xs ys t e d l p found);
            no_space = no_space;
            no_comment = no_comment;
          })
        ]
      ]
    ]
  where
    ended : (m : ℕ) (xs ys : List ℕ) (t : Token) → xs ++ ys ≡ text → SpellsToken m xs t → IsLongest text xs → EndsPlace t ys → (found : Longest n text) → EndsPlace found.tok found.behind
    ended m xs ys t e d l p found =
        let le = l n found.front found.behind found.tok found.parts found.spells in
        let ge = found.longest m xs ys t e d in
        let same = same_front xs ys found.front found.behind (e ∙ sym found.parts) (omega arith) in
        subst (λ z. EndsPlace found.tok z) same.1 (place_too m n xs ys t found.tok d (subst (λ z. SpellsToken n z found.tok) (sym same.0) found.spells) p)

pub tokens_or_not : (bytes : List ℕ) → IsUtf8 bytes → ((toks : List Token) × Lex bytes toks) ⊎ ((n : ℕ) × IsBadToken bytes n)
tokens_or_not bytes u =
    elim (lexed (length (chars bytes)) 1 (chars bytes) (omega arith)) [
      | whole toks d ↦ inl (toks, (u, d))
      | stuck toks front rest e d b ↦ inr (length (encode_utf8_all front), record { tokens = toks; front = front; rest = rest; parts = e; place = refl; before = d; bad = b })
    ]
