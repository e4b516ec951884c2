-- Worked examples, by computation: the limits of names and of runs of tokens.
use Rattle.std.specs.Prelude.{◌≡◌, ℕ, List, [], ◌∷◌, ◌++◌, replicate, refl, Some, None}
use Rattle.topos_model.specs.declared.fault.Fault.TheVariants.{TooMany}
use Rattle.topos_model.specs.declared.fault.Kind.TheVariants as kind
use Rattle.topos_text.specs.declared.word.Word.TheVariants as word
use Rattle.topos_text.specs.declared.symbol.Symbol.TheVariants as symbol
use Rattle.topos_text.specs.Tokens.{Token, Name, Reserved, Sign}
use Rattle.topos_text.specs.Limits.{begins_limited, is_limited, run_fault, name_len_fault, run_after, token_fault}
use Rattle.topos_text.proofs.WorkedTokens.{x}

opened : Unit {0}
unfolding begins_limited is_limited run_fault name_len_fault run_after token_fault
opened = tt

abbrev parentheses : ℕ → List Token
parentheses n = replicate n (Sign symbol.OpenParenthesis)

-- `valid` and 255 parentheses are 256 tokens
run_fits : token_fault [] (Reserved word.Valid ∷ parentheses 255) ≡ None
unfolding opened
run_fits = refl

run_too_long : token_fault [] (Reserved word.Valid ∷ parentheses 256) ≡ Some (TooMany kind.Term 256)
unfolding opened
run_too_long = refl

-- `;` ends a run
two_runs : token_fault [] (Reserved word.Valid ∷ parentheses 200 ++ Sign symbol.Semicolon ∷ Reserved word.Valid ∷ parentheses 200) ≡ None
unfolding opened
two_runs = refl

-- a run that begins with another word has no limit
object_run : token_fault [] (Reserved word.Object ∷ parentheses 256) ≡ None
unfolding opened
object_run = refl

name_fits : token_fault [] (Name (x (replicate 255 97) 1) ∷ []) ≡ None
unfolding opened
name_fits = refl

name_too_long : token_fault [] (Name (x (replicate 256 97) 1) ∷ []) ≡ Some (TooMany kind.Name 255)
unfolding opened
name_too_long = refl
