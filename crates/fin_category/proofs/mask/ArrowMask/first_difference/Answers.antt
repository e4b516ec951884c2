use Rattle.std.proofs.Common.{◌<◌, ◌^◌, get_or, bit_xor, w64, arith}
use Rattle.std.proofs.lemmas.Nat.{xor_lt}
use Rattle.std.proofs.lemmas.Nat.Bits.{bit_at-trailing_zeros}
use Rattle.fin_category.proofs.MaskDifferences.{difference, no_difference}
use Rattle.fin_category.proofs.mask.ArrowMask.first_difference.Goals as goal

pub returns-then-word-ne0 : goal.returns-then-word-ne0
returns-then-word-ne0 c =
    let a = c.args.self.words in
    let b = c.args.o.words in
    let t = bit_at-trailing_zeros w64 (bit_xor (get_or a c.loop-i.i 0) (get_or b c.loop-i.i 0)) (omega (arith, c.if-word-ne0.true)) (xor_lt 64 (get_or a c.loop-i.i 0) (get_or b c.loop-i.i 0) (omega arith) (omega arith)) in
    difference a b c.loop-i.i _ c.loop-i-test.true t.0 c.loop-i.invariant t.1 t.2

pub returns : goal.returns
returns c = no_difference c.args.self.words c.args.o.words (λ j low. c.loop-i.invariant j (omega (arith, low, c.loop-i-test.false)))
