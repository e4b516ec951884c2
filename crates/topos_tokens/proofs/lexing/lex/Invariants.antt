use Rattle.std.proofs.Common.{map, length}
use denote.Text.{Utf8}
use denote.Shadow.{shadow}
use Rattle.std.specs.Str.{chars}
use Rattle.topos_text.specs.Tokens.{token_of}
use Rattle.topos_text.specs.Lexing.{Lexes}
use Rattle.topos_tokens.specs.Fronts.{NoBlank}
use Rattle.topos_tokens.proofs.lexing.lex.Given as goal

abbrev pub invariant-loop-rest : goal.invariant-loop-rest
invariant-loop-rest l = record {
  read : Lexes 1 (chars l.text) (map token_of l.tokens.items) (chars l.rest);
  blank : NoBlank (chars l.rest);
  utf8 : shadow (Utf8 l.rest);
}

abbrev pub decreases-loop-rest : goal.decreases-loop-rest
decreases-loop-rest l = length (chars l.rest)
