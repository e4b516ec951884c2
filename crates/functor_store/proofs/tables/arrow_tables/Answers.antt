use Rattle.std.proofs.Common.{◌≡◌, ◌<◌, arith, length, get_or, refl}
use Rattle.std.proofs.lemmas.List.{get_or_read}
use Rattle.functor_store.proofs.ArrowTables.{counted_none, counted_more, seen_few, tables_are}
use Rattle.functor_store.proofs.tables.arrow_tables.Goals as goal

pub loop-c-init : goal.loop-c-init
loop-c-init c = counted_none c.args.objects c.args.ends.now _ _ c.in_ok-into.ensures.items c.new-places.ensures

pub index-before-requires : goal.index-before-requires
index-before-requires c =
    let l : c.loop-c.c-index < length c.args.ends.now = omega (arith, c.loop-c-test.true) in
    let d = c.requires.ends_in c.loop-c.c-index l in
    let n = c.loop-c.invariant.objects_in in
    omega (arith, c.loop-c.into.ok)

pub overflow_add-before : goal.overflow_add-before
overflow_add-before c =
    let l : c.loop-c.c-index < length c.args.ends.now = omega (arith, c.loop-c-test.true) in
    let d = c.requires.ends_in c.loop-c.c-index l in
    let n = c.loop-c.invariant.objects_in in
    let s : c.index-before.result.now ≡ get_or c.loop-c.into.items ((get_or c.args.ends.now c.loop-c.c-index (0, 0)).1) 0 = get_or_read c.loop-c.into.items _ c.index-before.result.now (omega arith) c.index-before.ensures 0 in
    let k = seen_few c.args.objects c.args.ends.now c.loop-c.c-index _ c.index-before.result.now c.loop-c.into.items c.loop-c.places c.loop-c.invariant (omega arith) d s in
    let few = c.requires.arrows in
    omega arith

pub loop-c-preserved : goal.loop-c-preserved
loop-c-preserved c =
    let l : c.loop-c.c-index < length c.args.ends.now = omega (arith, c.loop-c-test.true) in
    let d = c.requires.ends_in c.loop-c.c-index l in
    let n = c.loop-c.invariant.objects_in in
    let s : c.index-before.result.now ≡ get_or c.loop-c.into.items ((get_or c.args.ends.now c.loop-c.c-index (0, 0)).1) 0 = get_or_read c.loop-c.into.items _ c.index-before.result.now (omega arith) c.index-before.ensures 0 in
    counted_more c.args.objects c.args.ends.now c.loop-c.c-index c.index-before.result.now (get_or c.args.ends.now c.loop-c.c-index (0, 0)) c.loop-c.into.items c.loop-c.places _ _ c.loop-c.invariant l refl d s c.in_ok-push.ensures.ok refl

pub returns : goal.returns
returns c =
    let e : c.loop-c.c-index ≡ length c.args.ends.now = omega arith in
    record { tables = tables_are c.args.objects c.args.ends.now c.loop-c.c-index c.loop-c.into.items c.loop-c.places c.loop-c.invariant e c.requires.ends_in }
