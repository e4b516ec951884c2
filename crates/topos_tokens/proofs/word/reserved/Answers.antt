use Rattle.std.proofs.Common.{◌≡◌, ◌<◌, List, ℕ, [], ◌∷◌, length, sym, arith, None}
use Rattle.topos_text.specs.Spelling.{word_of}
use Rattle.topos_tokens.proofs.Words.{no_word_nil}
use Rattle.topos_tokens.proofs.word.reserved.Goals as goal

no_word : (name : List ℕ) → length name < 1 → word_of name ≡ None
no_word [] lt = no_word_nil
no_word (c ∷ cs) lt = absurd (omega (arith, lt))

pub returns-in-empty : goal.returns-in-empty
returns-in-empty c = sym (no_word c.args.name.now c.in-empty.len_below)
