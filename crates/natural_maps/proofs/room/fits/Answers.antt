use Rattle.std.proofs.Common.{◌≡◌, ◌≤◌, length, [], ◌<◌, ◌+◌, ◌*◌, get_or, sym, ap, arith}
use Rattle.topos_model.specs.categories.Category.{into}
use Rattle.presheaf_core.proofs.CellSums.{cells_below, cells_none, cells_more, cells_all}
use Rattle.natural_maps.proofs.CellSums.{cells_within, more_than_share, within_share}
use Rattle.natural_maps.proofs.room.fits.Goals as goal

pub loop-c-init : goal.loop-c-init
loop-c-init c = let z : cells_below c.args.cat.now c.args.sizes.now 0 ≡ 0 = cells_none c.args.cat.now c.args.sizes.now in omega arith

pub returns-then-size-left-clause-over : goal.returns-then-size-left-clause-over
returns-then-size-left-clause-over c = λ _.
    let more = cells_more c.args.cat.now c.args.sizes.now c.loop-c.c in
    let within : cells_below c.args.cat.now c.args.sizes.now (c.loop-c.c + 1) ≤ cells_below c.args.cat.now c.args.sizes.now c.args.cat.now.objects =
    cells_within c.args.cat.now c.args.sizes.now (c.loop-c.c + 1) c.args.cat.now.objects (omega (arith, c.loop-c-test.true, c.objects-c-end.ensures.count)) in
    let all = cells_all c.args.cat.now c.args.sizes.now [] in
    let over : c.loop-c.left < get_or c.args.sizes.now c.loop-c.c 0 * (1 + length (into c.args.cat.now c.loop-c.c)) =
    rw (← c.arrows_into.ensures.value) (more_than_share c.loop-c.left (get_or c.args.sizes.now c.loop-c.c 0) (length c.arrows_into.result.now) c.if-size-left.true) in
    omega (arith, c.loop-c.invariant, more, within, all, over)

pub loop-c-preserved : goal.loop-c-preserved
loop-c-preserved c =
    let more = cells_more c.args.cat.now c.args.sizes.now c.loop-c.c in
    let value : length c.arrows_into.result.now ≡ length (into c.args.cat.now c.loop-c.c) = ap length c.arrows_into.ensures.value in
    let fits : get_or c.args.sizes.now c.loop-c.c 0 * (1 + length c.arrows_into.result.now) ≤ c.loop-c.left = within_share c.loop-c.left (get_or c.args.sizes.now c.loop-c.c 0) (length c.arrows_into.result.now) c.if-size-left.false in
    let same : get_or c.args.sizes.now c.loop-c.c 0 * (1 + length (into c.args.cat.now c.loop-c.c)) ≡ get_or c.args.sizes.now c.loop-c.c 0 * (1 + length c.arrows_into.result.now) = ap (λ n. get_or c.args.sizes.now c.loop-c.c 0 * (1 + n)) (sym value) in
    omega (arith, c.loop-c.invariant, more, fits, same)

pub returns-clause-fits : goal.returns-clause-fits
returns-clause-fits c = λ _.
    let within : cells_below c.args.cat.now c.args.sizes.now c.args.cat.now.objects ≤ cells_below c.args.cat.now c.args.sizes.now c.loop-c.c =
    cells_within c.args.cat.now c.args.sizes.now c.args.cat.now.objects c.loop-c.c (omega (arith, c.loop-c-test.false, c.objects-c-end.ensures.count)) in
    let all = cells_all c.args.cat.now c.args.sizes.now [] in
    omega (arith, c.loop-c.invariant, within, all)
