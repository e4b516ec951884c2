use Rattle.std.proofs.Common.{◌≡◌}
use Rattle.type_rows.proofs.ObjectRows.{objects_more, rows_more}
use Rattle.named_functors.specs.NamedRows.{named_rows}
use Rattle.named_functors.proofs.rows.all_rows.Goals as goal

pub loop-c-preserved : goal.loop-c-preserved
loop-c-preserved c =
    let i = c.loop-c.invariant in
    let row = c.in_ok-rows_over.field-0 in
    record {
      objects = objects_more c.loop-c.all c.push.new.self row c.loop-c.c c.in_ok-push.ensures.ok i.objects;
      rows = rows_more c.loop-c.all c.push.new.self row c.loop-c.c c.in_ok-push.ensures.ok i.objects (λ x r. r ≡ named_rows c.args.cat.now c.args.functor.now x) i.rows c.in_ok-rows_over.ensures.rows;
    }
