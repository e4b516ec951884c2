-- What the tokens of a text are, and why it has none.
use Rattle.std.specs.Prelude.{◌≡◌, ◌⊎◌, ℕ, List, [], None, IsUtf8}
use Rattle.std.specs.Str.{IsValidUpTo}
use Rattle.topos_model.specs.declared.fault.Fault.TheVariants.{BadToken}
use Rattle.topos_text.specs.Tokens.{Token}
use Rattle.topos_text.specs.Lexing.{Lex, IsBadToken}
use Rattle.topos_text.specs.Limits.{token_fault}
use Rattle.topos_text.specs.TextFaults.{IsShort, TextFault}
use Rattle.topos_tokens.specs.declared.fault.ReadFault.{ReadFault}
use Rattle.topos_tokens.specs.declared.fault.ReadFault.TheVariants.{NoMemory, Refused}

-- The text is no longer than the limit and has these tokens, none of which passes a limit.
pub record HasTokens (bytes : List ℕ) (toks : List Token) : Type 0 where
  pub short : IsShort bytes
  pub lex : Lex bytes toks
  pub fits : token_fault [] toks ≡ None

-- memory may run out, and a text is refused by its first fault
abbrev pub IsRefused : List ℕ → ReadFault → Type 0
IsRefused bytes NoMemory = Unit {0}
IsRefused bytes (Refused fault) = TextFault bytes fault

-- memory may run out, and at the byte no token begins
abbrev pub IsLexFault : List ℕ → ReadFault → Type 0
IsLexFault bytes NoMemory = Unit {0}
IsLexFault bytes (Refused (BadToken n)) = IsBadToken bytes n
IsLexFault bytes (Refused fault) = ⊥

-- bytes are UTF-8, or are so up to a byte
abbrev pub EachTextIsUtf8OrNot : Type 0
EachTextIsUtf8OrNot = (bytes : List ℕ) → IsUtf8 bytes ⊎ ((n : ℕ) × IsValidUpTo bytes n)

-- a text has tokens, or a byte at which none begins
abbrev pub EachTextHasTokensOrNot : Type 0
EachTextHasTokensOrNot = (bytes : List ℕ) → IsUtf8 bytes → ((toks : List Token) × Lex bytes toks) ⊎ ((n : ℕ) × IsBadToken bytes n)
