use Rattle.std.proofs.Common.{arith}
use Rattle.fin_category.proofs.MaskWords.{members-and}
use Rattle.fin_category.proofs.mask.ArrowMask.meet.Goals as goal

pub returns : goal.returns
returns c = members-and c.loop-i.words c.args.self.words c.args.o.words (λ j low. c.loop-i.invariant.done j (omega arith))
