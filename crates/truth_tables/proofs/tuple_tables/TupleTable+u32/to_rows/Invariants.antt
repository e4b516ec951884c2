use Rattle.std.proofs.Common.{◌≡◌, take}
use Rattle.truth_tables.specs.Spans.{rows_of}
use Rattle.truth_tables.proofs.tuple_tables.TupleTable+u32.to_rows.Given as goal

-- the rows so far
abbrev pub invariant-loop-span : goal.invariant-loop-span
invariant-loop-span l = l.rows ≡ rows_of l.self-inside.cells.items (take l.span-index l.self-inside.spans.items)
