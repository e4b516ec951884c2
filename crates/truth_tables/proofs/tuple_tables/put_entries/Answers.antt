use Rattle.std.proofs.Common.{ap, length, arith}
use Rattle.std.proofs.lemmas.List.{length_push}
use Rattle.truth_tables.proofs.Rows.{row-longer}
use Rattle.truth_tables.proofs.tuple_tables.put_entries.Goals as goal

pub loop-i-preserved : goal.loop-i-preserved
loop-i-preserved g c = (
  omega (arith, ap length c.in_ok-put.ensures.ok, length_push c.loop-i.cells.items c.entry.result, c.loop-i.invariant.0),
  λ f h. row-longer f c.loop-i.i c.args.cells.now.items c.loop-i.cells.items c.put.new.items.items c.entry.result (c.loop-i.invariant.1 f h) c.in_ok-put.ensures.ok
      (h c.loop-i.i c.entry.result c.loop-i-test.true c.entry.ensures),
)
