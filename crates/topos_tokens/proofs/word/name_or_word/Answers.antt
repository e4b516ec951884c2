use Rattle.std.proofs.Common.{sym}
use Rattle.std.specs.Str.{chars}
use Rattle.topos_tokens.proofs.Fronts.{word_by_bytes, name_by_bytes}
use Rattle.topos_tokens.proofs.word.name_or_word.Goals as goal

pub returns-in-Some-clause-front : goal.returns-in-Some-clause-front
returns-in-Some-clause-front c =
    let p = c.after_name-rest.ensures.passed in
    let s = c.requires.starts in
    word_by_bytes c.args.number (chars c.args.text.now) (chars c.after_name-rest.result.now) c.bytes_before-name.result.now s.0 s.1 p c.in-Some.word s.2 s.3 c.after_name-rest.ensures.ends (c.bytes_before-name.ensures p.front p.parts) (sym c.in-Some.ensures)

pub returns-in-None-clause-front : goal.returns-in-None-clause-front
returns-in-None-clause-front c =
    let p = c.after_name-rest.ensures.passed in
    let s = c.requires.starts in
    name_by_bytes c.args.number (chars c.args.text.now) (chars c.after_name-rest.result.now) c.bytes_before-name.result.now s.0 s.1 p s.2 s.3 c.after_name-rest.ensures.ends (c.bytes_before-name.ensures p.front p.parts) (sym c.in-None.ensures)
