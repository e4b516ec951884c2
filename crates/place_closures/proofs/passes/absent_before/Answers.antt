use Rattle.place_closures.proofs.Adding.{one_left}
use Rattle.place_closures.proofs.passes.absent_before.Goals as goal

pub get-requires : goal.get-requires
get-requires c = c.requires _ (one_left c.args.row.now c.loop-j.j-index c.loop-j-test.true)
