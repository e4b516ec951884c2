use Rattle.std.proofs.Common.{ℕ, [], length}
use denote.Shadow.{shadow}
use denote.Text.{Utf8}
use Rattle.std.specs.Str.{chars}
use Rattle.topos_text.specs.Lexing.{Lexes}
use Rattle.topos_tokens.proofs.blank.after_blank.Given as goal

abbrev pub invariant-loop-c : goal.invariant-loop-c
invariant-loop-c l = record { blank : (n : ℕ) → Lexes n (chars l.text) [] (chars l.rest); utf8 : shadow (Utf8 l.rest) }

abbrev pub decreases-loop-c : goal.decreases-loop-c
decreases-loop-c l = length (chars l.rest)
