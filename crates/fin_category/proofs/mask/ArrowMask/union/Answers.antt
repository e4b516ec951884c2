use Rattle.std.proofs.Common.{◌∙◌, arith, bit_or}
use Rattle.std.proofs.lemmas.List.{length-set}
use Rattle.fin_category.proofs.MaskWords.{members-or, word-written}
use Rattle.fin_category.proofs.mask.ArrowMask.union.Goals as goal

pub returns : goal.returns
returns c = members-or c.loop-i.words c.args.self.words c.args.o.words (λ j low. c.loop-i.invariant.done j (omega arith))

pub loop-i-preserved : goal.loop-i-preserved
loop-i-preserved c = let r = word-written bit_or c.loop-i.words c.args.self.words c.args.o.words c.loop-i.i (omega (arith, c.loop-i.invariant.whole)) c.loop-i.invariant.done c.loop-i.invariant.left in record { whole = length-set c.loop-i.words c.loop-i.i _ ∙ c.loop-i.invariant.whole; done = r.0; left = r.1 }
