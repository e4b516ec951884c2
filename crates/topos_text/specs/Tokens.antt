-- Tokens, without where their bytes lie.
use Rattle.std.specs.Prelude.{ℕ, List}
use Rattle.topos_text.specs.declared.word.Word.{Word}
use Rattle.topos_text.specs.declared.symbol.Symbol.{Symbol}
use Rattle.topos_text.specs.declared.token.Written as lying
use Rattle.topos_text.specs.declared.token.Token as lying_token
use Rattle.topos_text.specs.declared.token.Token.TheVariants as variant

-- a name or a place: its bytes as they were written, and the number of its token, from 1
pub record Written : Type 0 where
  pub text : List ℕ
  pub token : ℕ

pub data Token : Type 0 where
  Name : Written → Token
  -- a place, with the number that it stands for
  Place : ℕ → Written → Token
  Reserved : Word → Token
  Sign : Symbol → Token

abbrev pub written : lying.Written → Written
written x = record { text = x.text.now; token = x.token }

abbrev pub token_of : lying_token.Token → Token
token_of (variant.Name x) = Name (written x)
token_of (variant.Place n x) = Place n (written x)
token_of (variant.Word w) = Reserved w
token_of (variant.Symbol s) = Sign s
