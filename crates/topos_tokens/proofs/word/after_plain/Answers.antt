use Rattle.std.proofs.Common.{sym, subst}
use Rattle.std.specs.Str.{chars}
use Rattle.topos_text.specs.Spelling.{continues_name}
use Rattle.topos_tokens.specs.Fronts.{Passed}
use Rattle.topos_tokens.proofs.PlainNames.{plain_boundary, plain_passed}
use Rattle.topos_tokens.proofs.word.after_plain.Goals as goal

pub range_from-requires : goal.range_from-requires
range_from-requires c = λ some. plain_boundary c.args.text.now c.plain_len-len.result c.utf8.text (rw c.as_bytes.ensures.value at c.plain_len-len.ensures.within) (rw c.as_bytes.ensures.value at c.plain_len-len.ensures.plain)

pub returns-clause-passed : goal.returns-clause-passed
returns-clause-passed c =
    subst (λ z. Passed continues_name (chars c.args.text.now) (chars z)) (sym c.range_from.ensures.value)
    (plain_passed c.args.text.now c.plain_len-len.result c.utf8.text (rw c.as_bytes.ensures.value at c.plain_len-len.ensures.within) (rw c.as_bytes.ensures.value at c.plain_len-len.ensures.plain))
