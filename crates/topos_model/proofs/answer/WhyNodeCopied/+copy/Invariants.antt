use Rattle.std.proofs.Common.{◌≡◌, ◌++◌, drop}
use Rattle.topos_model.proofs.answer.WhyNodeCopied.+copy.Given as goal

abbrev pub invariant-loop-kid : goal.invariant-loop-kid
invariant-loop-kid l = l.kids ++ drop l.kid-index l.kid-items ≡ l.kid-items
