use Rattle.std.specs.Str.{chars}
use Rattle.topos_text.specs.Lexing.{is_no_line_feed}
use Rattle.topos_tokens.proofs.Characters.{passed_none, passed_more}
use Rattle.topos_tokens.proofs.Blanks.{no_line_feed}
use Rattle.topos_tokens.proofs.blank.after_line.Goals as goal

pub loop-c-init : goal.loop-c-init
loop-c-init c = record { passed = passed_none is_no_line_feed (chars c.args.text.now); utf8 = c.utf8.text }

pub loop-c-preserved : goal.loop-c-preserved
loop-c-preserved c = record {
  passed = passed_more is_no_line_feed (chars c.args.text.now) (chars c.loop-c.rest.now) (chars c.in-Some.behind.now) c.in-Some.c c.in-Some.ensures.characters (no_line_feed c.in-Some.c c.if-c-eq10.false) c.loop-c.invariant.passed;
  utf8 = c.in-Some.ensures.utf8;
}
