use Rattle.std.proofs.Common.{◌≡◌, ◌++◌}
use Rattle.std.specs.Char.{encode_utf8}
use Rattle.std.proofs.lemmas.Str.{chars_past_char}
use Rattle.topos_tokens.proofs.character.next_char.Goals as goal

pub returns-clause-characters : goal.returns-clause-characters
returns-clause-characters c =
    let a = c.chars-rest.ensures.rest in
    let b = c.in_ok-first.ensures.steps in
    let d = c.as_str.ensures in
    let e : c.args.text.now ≡ encode_utf8 c.in_ok-first.first ++ c.as_str.result.now = cc in
    chars_past_char c.args.text.now c.as_str.result.now c.in_ok-first.first c.utf8.text e
