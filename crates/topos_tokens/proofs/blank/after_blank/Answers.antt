use Rattle.std.proofs.Common.{◌∷◌, sym, ap, ◌∙◌}
use Rattle.std.specs.Str.{chars}
use Rattle.topos_text.specs.Lexing.{stop}
use Rattle.topos_tokens.proofs.Blanks.{lexes_space, lexes_comment, blank_then}
use Rattle.topos_tokens.proofs.blank.after_blank.Goals as goal

pub loop-c-init : goal.loop-c-init
loop-c-init c = record { blank = λ n. stop; utf8 = c.utf8.text }

pub loop-c-preserved-then-is_white : goal.loop-c-preserved-then-is_white
loop-c-preserved-then-is_white c = record {
  blank = λ n. blank_then n (chars c.args.text.now) (chars c.loop-c.rest.now) (chars c.in-Some.behind.now) (c.loop-c.invariant.blank n) (lexes_space n c.in-Some.c (chars c.loop-c.rest.now) (chars c.in-Some.behind.now) c.in-Some.ensures.characters (sym c.is_white.ensures ∙ c.if-is_white.true));
  utf8 = c.in-Some.ensures.utf8;
}

pub loop-c-preserved : goal.loop-c-preserved
loop-c-preserved c = record {
  blank = λ n. blank_then n (chars c.args.text.now) (chars c.loop-c.rest.now) (chars c.after_line-rest.result.now) (c.loop-c.invariant.blank n)
      (lexes_comment n (chars c.loop-c.rest.now) (chars c.in-Some.behind.now) (chars c.in-Some-after_char.comment.now) (chars c.after_line-rest.result.now) (c.in-Some.ensures.characters ∙ ap (λ v. v ∷ chars c.in-Some.behind.now) c.if-c-ne47.false) c.in-Some-after_char.ensures.characters c.after_line-rest.ensures.passed c.after_line-rest.ensures.ends);
  utf8 = c.after_line-rest.ensures.utf8;
}
