use Rattle.std.proofs.Common.{length}
use denote.Shadow.{shadow}
use denote.Text.{Utf8}
use Rattle.std.specs.Str.{chars}
use Rattle.topos_text.specs.Lexing.{is_no_line_feed}
use Rattle.topos_tokens.specs.Fronts.{Passed}
use Rattle.topos_tokens.proofs.blank.after_line.Given as goal

abbrev pub invariant-loop-c : goal.invariant-loop-c
invariant-loop-c l = record { passed : Passed is_no_line_feed (chars l.text) (chars l.rest); utf8 : shadow (Utf8 l.rest) }

abbrev pub decreases-loop-c : goal.decreases-loop-c
decreases-loop-c l = length (chars l.rest)
