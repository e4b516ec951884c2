use Rattle.std.proofs.Common.{arith}
use Rattle.product_objects.proofs.PairNumbers.{next_place}
use Rattle.product_objects.proofs.pairs.push_pair.Goals as goal

pub loop-j-preserved : goal.loop-j-preserved
loop-j-preserved c =
    rw c.in_ok-push.ensures.ok (next_place c.args.widths.now c.args.first.now c.args.second.now c.loop-j.j _ _ _ c.args.out.now c.loop-j.out (omega (arith, c.loop-j-test.true, c.loop-j.auto.j-end)) c.requires.first c.requires.second c.loop-j.invariant)
