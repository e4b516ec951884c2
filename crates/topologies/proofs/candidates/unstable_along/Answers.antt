use Rattle.std.proofs.Common.{◌<◌, subst, sym, get_or}
use Rattle.topologies.proofs.candidates.unstable_along.Goals as goal

pub is_covered-requires : goal.is_covered-requires
is_covered-requires c =
    let k = c.args.cat.now in
    subst (λ d. d < c.args.cat.now.objects) (sym c.pull.ensures.at)
    (c.laws.ensures.lawful.ends (get_or c.arrows_into-f-items.result.now c.loop-f.f-index 0) (c.arrows_into-f-items.ensures.each c.loop-f.f-index c.loop-f-test.true).0).0
