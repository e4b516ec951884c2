use Rattle.std.proofs.Common.{sym, ◌∙◌}
use Rattle.std.specs.Str.{chars}
use Rattle.topos_text.specs.Spelling.{continues_name}
use Rattle.topos_tokens.proofs.Characters.{passed_more}
use Rattle.topos_tokens.proofs.word.after_name.Goals as goal

pub loop-c-init : goal.loop-c-init
loop-c-init c = record { passed = c.after_plain-rest.ensures.passed; utf8 = c.after_plain-rest.ensures.utf8 }

pub loop-c-preserved : goal.loop-c-preserved
loop-c-preserved c = record {
  passed = passed_more continues_name (chars c.args.text.now) (chars c.loop-c.rest.now) (chars c.in-Some.behind.now) c.in-Some.c c.in-Some.ensures.characters (sym c.is_continue.ensures ∙ c.if-not-is_continue.false) c.loop-c.invariant.passed;
  utf8 = c.in-Some.ensures.utf8;
}
