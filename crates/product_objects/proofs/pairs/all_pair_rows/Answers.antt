use Rattle.sealed_types.specs.Sealed.{sizes_in, restrictions_in}
use Rattle.type_rows.proofs.ObjectRows.{objects_more, rows_more}
use Rattle.product_objects.specs.PairRows.{ArePairRows}
use Rattle.product_objects.proofs.pairs.all_pair_rows.Goals as goal

pub loop-c-preserved : goal.loop-c-preserved
loop-c-preserved c =
    let store = c.args.store.now in
    let i = c.loop-c.invariant in
    let row = c.in_ok-pair_rows.field-0 in
    record {
      objects = objects_more c.loop-c.all c.push.new.self row c.loop-c.c c.in_ok-push.ensures.ok i.objects;
      rows = rows_more c.loop-c.all c.push.new.self row c.loop-c.c c.in_ok-push.ensures.ok i.objects
          (ArePairRows c.args.cat.now (sizes_in store c.args.s) (sizes_in store c.args.t) (restrictions_in store c.args.s) (restrictions_in store c.args.t)) i.rows c.in_ok-pair_rows.ensures.rows;
    }
