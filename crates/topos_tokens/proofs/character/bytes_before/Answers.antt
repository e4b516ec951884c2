use Rattle.std.proofs.Common.{◌-◌, ap, ◌∙◌, arith, length, take}
use Rattle.topos_tokens.proofs.Characters.{bytes_len, bytes_front}
use Rattle.topos_tokens.proofs.character.bytes_before.Goals as goal

pub slice_bounds-result-count : goal.slice_bounds-result-count
slice_bounds-result-count c = let p = c.requires.rest in omega (arith, bytes_len c.args.text.now c.args.rest.now p.0 c.utf8.text c.utf8.rest p.1)

pub returns : goal.returns
returns c = λ front parts. ap (λ z. take (length c.args.text.now - length c.args.rest.now) z) c.as_bytes.ensures.value ∙ bytes_front c.args.text.now c.args.rest.now front c.utf8.text c.utf8.rest parts
