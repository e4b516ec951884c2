use Rattle.std.proofs.Common.{ap, length, arith}
use Rattle.fin_category.proofs.MaskWords.{length-members}
use Rattle.fin_category.proofs.mask.ArrowMask.len.Goals as goal

pub overflow_add-len : goal.overflow_add-len
overflow_add-len c =
    let e = ap length c.in-Some.ensures.steps in
    let l = length-members c.args.self.words in
    let i = c.loop-arrow.invariant.2 in
    omega (arith, e, l, i)
