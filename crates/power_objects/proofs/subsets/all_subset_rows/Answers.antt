use Rattle.type_rows.proofs.ObjectRows.{objects_more, rows_more}
use Rattle.power_objects.specs.SubsetRows.{AreSubsetRows}
use Rattle.power_objects.proofs.subsets.all_subset_rows.Goals as goal

pub loop-c-preserved : goal.loop-c-preserved
loop-c-preserved g c =
    let i = c.loop-c.invariant in
    let row = c.in_ok-subset_rows.field-0 in
    record {
      objects = objects_more c.loop-c.rows c.push.new.self row c.loop-c.c c.in_ok-push.ensures.ok i.objects;
      rows = rows_more c.loop-c.rows c.push.new.self row c.loop-c.c c.in_ok-push.ensures.ok i.objects
          (AreSubsetRows c.args.site.now (g.X.Elements.size c.args.x.now) (g.X.Elements.restriction c.args.x.now)) i.rows c.in_ok-subset_rows.ensures.rows;
    }
