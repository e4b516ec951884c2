-- The tokens of a text: white space and comments are passed over, and at every other place the longest token is taken.
use Rattle.std.specs.Prelude.{◌≡◌, ◌≢◌, ◌≤◌, ◌+◌, ◌==◌, ◌||◌, ℕ, Bool, true, false, not, List, [], ◌∷◌, ◌++◌, length, Some, None, encode_utf8_all, chars, IsUtf8}
use Rattle.std.specs.List.{list_all}
use Rattle.topos_text.specs.declared.word.Word.{Word}
use Rattle.topos_text.specs.declared.symbol.Symbol.{Symbol}
use Rattle.topos_text.specs.Spelling.{word_of, symbol_of, is_name, is_digit, are_digits, number_of}
use Rattle.topos_text.specs.Tokens.{Token, Written, Name, Place, Reserved, Sign}

-- the characters as the token number n
abbrev pub written_as : ℕ → List ℕ → Written
written_as n cs = record { text = encode_utf8_all cs; token = n }

-- The characters spell the token, which has the number n.
pub data SpellsToken : ℕ → List ℕ → Token → Type 0 where
  word : {n : ℕ} {cs : List ℕ} {w : Word} → word_of cs ≡ Some w → SpellsToken n cs (Reserved w)
  symbol : {n : ℕ} {cs : List ℕ} {s : Symbol} → symbol_of cs ≡ Some s → SpellsToken n cs (Sign s)
  -- `#` and digits
  place : {n : ℕ} {cs : List ℕ} → are_digits cs ≡ true → SpellsToken n (35 ∷ cs) (Place (number_of cs) (written_as n (35 ∷ cs)))
  name : {n : ℕ} {cs : List ℕ} → is_name cs ≡ true → word_of cs ≡ None → SpellsToken n cs (Name (written_as n cs))

-- no longer front of the text is a token
abbrev pub IsLongest : List ℕ → List ℕ → Type 0
IsLongest text front = (n : ℕ) (xs ys : List ℕ) (t : Token) → xs ++ ys ≡ text → SpellsToken n xs t → length xs ≤ length front

-- no digit follows a place: `#` and ten digits are no token
abbrev pub EndsPlace : Token → List ℕ → Type 0
EndsPlace (Place n x) (c ∷ cs) = is_digit c ≡ false
EndsPlace _ _ = Unit {0}

-- space, tab, line feed, carriage return
abbrev pub is_space : ℕ → Bool
is_space c = (c == 32) || (c == 9) || (c == 10) || (c == 13)

abbrev pub is_no_line_feed : ℕ → Bool
is_no_line_feed c = not (c == 10)

-- a comment ends before a line feed or at the end of the text
abbrev pub EndsComment : List ℕ → Type 0
EndsComment [] = Unit {0}
EndsComment (c ∷ cs) = c ≡ 10

-- Of a text the first tokens, from number n on, and the characters behind them.
pub data Lexes : ℕ → List ℕ → List Token → List ℕ → Type 0 where
  stop : {n : ℕ} {cs : List ℕ} → Lexes n cs [] cs
  space : {n c : ℕ} {cs rest : List ℕ} {ts : List Token} → is_space c ≡ true → Lexes n cs ts rest → Lexes n (c ∷ cs) ts rest
  comment : {n : ℕ} (xs : List ℕ) {ys rest : List ℕ} {ts : List Token} → list_all is_no_line_feed xs ≡ true → EndsComment ys → Lexes n ys ts rest → Lexes n (47 ∷ 47 ∷ xs ++ ys) ts rest
  token : {n : ℕ} {xs ys rest : List ℕ} {t : Token} {ts : List Token} → SpellsToken n xs t → IsLongest (xs ++ ys) xs → EndsPlace t ys → Lexes (n + 1) ys ts rest → Lexes n (xs ++ ys) (t ∷ ts) rest

-- the bytes are a text in UTF-8 with these tokens
abbrev pub Lex : List ℕ → List Token → Type 0
Lex bytes toks = IsUtf8 bytes × Lexes 1 (chars bytes) toks []

-- Neither a token nor white space nor a comment begins the text, and it is not at its end.
pub record BeginsNothing (text : List ℕ) : Type 0 where
  pub more : text ≢ []
  pub no_token : (n : ℕ) (xs ys : List ℕ) (t : Token) → xs ++ ys ≡ text → SpellsToken n xs t → IsLongest text xs → EndsPlace t ys → ⊥
  pub no_space : (c : ℕ) (cs : List ℕ) → text ≡ c ∷ cs → is_space c ≡ false
  pub no_comment : (cs : List ℕ) → text ≢ 47 ∷ 47 ∷ cs

-- The characters before the byte are tokens, and at the byte there is nothing that could begin one.
pub record IsBadToken (bytes : List ℕ) (byte : ℕ) : Type 0 where
  pub tokens : List Token
  pub front : List ℕ
  pub rest : List ℕ
  pub parts : chars bytes ≡ front ++ rest
  pub place : byte ≡ length (encode_utf8_all front)
  pub before : Lexes 1 (chars bytes) tokens rest
  pub bad : BeginsNothing rest
