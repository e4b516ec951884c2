use Rattle.std.proofs.Common.{◌+◌, get_or, sym}
use Rattle.topos_model.specs.presheaves.Maps.{component}
use Rattle.finite_colimits.specs.Classes.{IsClasses}
use Rattle.finite_colimits.proofs.ClassRows.{one_more_row, classes_moved, rows_moved}
use Rattle.finite_colimits.proofs.coequalize.class_rows.Goals as goal

pub loop-c-preserved : goal.loop-c-preserved
loop-c-preserved c =
    let here : IsClasses (component c.args.m.now c.loop-c.c) (component c.args.n.now c.loop-c.c) (get_or c.args.y.now.sizes c.loop-c.c 0) c.in_ok-number.number c.in_ok-number.first =
    classes_moved _ _ _ _ _ _ c.in_ok-number.number c.in_ok-number.first c.row.ensures c.row-in-loop-c.ensures c.size.ensures c.in_ok-number.ensures in
    rows_moved (c.loop-c.c + 1) c.args.y.now.sizes c.args.m.now c.args.n.now _ _ _ _ (sym c.in_ok-push.ensures.ok) (sym c.in_ok-push-2.ensures.ok)
    (one_more_row c.loop-c.c c.args.y.now.sizes c.args.m.now c.args.n.now c.loop-c.numbers c.loop-c.least c.in_ok-number.number c.in_ok-number.first c.loop-c.invariant here)
