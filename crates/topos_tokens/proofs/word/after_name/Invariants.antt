use Rattle.std.proofs.Common.{length}
use denote.Shadow.{shadow}
use denote.Text.{Utf8}
use Rattle.std.specs.Str.{chars}
use Rattle.topos_text.specs.Spelling.{continues_name}
use Rattle.topos_tokens.specs.Fronts.{Passed}
use Rattle.topos_tokens.proofs.word.after_name.Given as goal

abbrev pub invariant-loop-c : goal.invariant-loop-c
invariant-loop-c l = record { passed : Passed continues_name (chars l.text) (chars l.rest); utf8 : shadow (Utf8 l.rest) }

abbrev pub decreases-loop-c : goal.decreases-loop-c
decreases-loop-c l = length (chars l.rest)
