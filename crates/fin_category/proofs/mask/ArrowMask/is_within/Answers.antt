use Rattle.std.proofs.Common.{arith, sym}
use Rattle.fin_category.proofs.MaskWords.{within-true, within-false}
use Rattle.fin_category.proofs.mask.ArrowMask.is_within.Goals as goal

pub returns-then-self-i : goal.returns-then-self-i
returns-then-self-i c = sym (within-false c.args.self.words c.args.o.words c.loop-i.i (omega arith) (omega arith) c.if-self-i.true)

pub returns : goal.returns
returns c = sym (within-true c.args.self.words c.args.o.words (λ j low. c.loop-i.invariant j (omega arith)))
