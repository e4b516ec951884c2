use Rattle.std.proofs.Common.{sym, arith}
use Rattle.natural_search.proofs.RisingRows.{below_at}
use Rattle.natural_search.proofs.order.compare_rows.Goals as goal

pub returns-then-row-i : goal.returns-then-row-i
returns-then-row-i c = below_at c.args.row.now c.args.other.now c.places.i c.places.invariant c.places-test.true (omega (arith, c.places-test.true, c.requires)) c.if-row-i.true

pub returns-then-other-i : goal.returns-then-other-i
returns-then-other-i c = below_at c.args.other.now c.args.row.now c.places.i (sym c.places.invariant) (omega (arith, c.places-test.true, c.requires)) c.places-test.true c.if-other-i.true
