use Rattle.std.proofs.Common.{arith}
use Rattle.place_closures.proofs.Adding.{one_left, back_end}
use Rattle.place_closures.proofs.passes.put_back.Goals as goal

pub get-requires : goal.get-requires
get-requires c = c.requires.within _ (one_left c.args.row.now c.loop-j.j-index c.loop-j-test.true)

pub returns : goal.returns
returns c = back_end c.args.last.now c.loop-j.set c.args.row.now c.loop-j.j-index (omega (arith, c.loop-j-test.false)) c.loop-j.invariant.places c.loop-j.invariant.alike
