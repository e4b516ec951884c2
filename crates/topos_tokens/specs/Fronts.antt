-- The front of a text, in characters.
use Rattle.std.specs.Prelude.{◌≡◌, ◌⊎◌, ◌<◌, ◌||◌, ◌==◌, ℕ, true, false, Bool, List, [], ◌∷◌, ◌++◌, length}
use Rattle.std.specs.Char.{is_ascii_alphanumeric}
use Rattle.std.specs.List.{list_all}
use Rattle.topos_text.specs.Spelling.{continues_name, is_digit, are_digits, number_of}
use Rattle.topos_text.specs.Tokens.{Token}
use Rattle.topos_text.specs.Lexing.{SpellsToken, IsLongest, EndsPlace, is_space}

-- The text goes on with the rest behind characters that pass the test.
pub record Passed (test : ℕ → Bool) (text rest : List ℕ) : Type 0 where
  pub front : List ℕ
  pub parts : text ≡ front ++ rest
  pub all : list_all test front ≡ true

-- The text begins with this token, which gets the number n, and goes on with the rest.
pub record IsFront (n : ℕ) (text : List ℕ) (t : Token) (rest : List ℕ) : Type 0 where
  pub front : List ℕ
  pub parts : text ≡ front ++ rest
  pub spelled : SpellsToken n front t
  pub longest : IsLongest text front
  pub ends : EndsPlace t rest

-- no token begins the text
abbrev pub NoToken : List ℕ → Type 0
NoToken text = (n : ℕ) (xs ys : List ℕ) (t : Token) → xs ++ ys ≡ text → SpellsToken n xs t → IsLongest text xs → EndsPlace t ys → ⊥

-- neither white space nor a comment begins the text
pub record NoBlank (text : List ℕ) : Type 0 where
  pub no_space : (c : ℕ) (cs : List ℕ) → text ≡ c ∷ cs → is_space c ≡ false
  pub no_comment : (cs : List ℕ) → text ≡ 47 ∷ 47 ∷ cs → ⊥

-- the text does not go on with a name
abbrev pub EndsName : List ℕ → Type 0
EndsName [] = Unit {0}
EndsName (c ∷ cs) = continues_name c ≡ false

-- the ASCII characters with which a name goes on
abbrev pub is_plain : ℕ → Bool
is_plain b = (is_ascii_alphanumeric b || (b == 95)) || (b == 39)

-- the text does not go on with digits
abbrev pub EndsDigits : List ℕ → Type 0
EndsDigits [] = Unit {0}
EndsDigits (c ∷ cs) = is_digit c ≡ false

-- The text begins with one to nine digits and no more, which stand for the number.
pub record IsDigits (text : List ℕ) (number : ℕ) (rest : List ℕ) : Type 0 where
  pub digits : List ℕ
  pub parts : text ≡ digits ++ rest
  pub are : are_digits digits ≡ true
  pub is : number ≡ number_of digits
  pub ends : EndsDigits rest

-- The text begins with no digit, or with ten.
pub record NoDigits (text : List ℕ) : Type 0 where
  pub digits : List ℕ
  pub rest : List ℕ
  pub parts : text ≡ digits ++ rest
  pub all : list_all is_digit digits ≡ true
  pub few : length digits < 1 → EndsDigits rest
  pub count : (length digits < 1) ⊎ (9 < length digits)
