use Rattle.std.proofs.Common.{ap, sym, ◌∙◌, List, ◌++◌, ◌∷◌, [], arith}
use Rattle.std.proofs.lemmas.List.FromFn.{length-map-range_with_len}
use Rattle.truth_tables.specs.Tables.{row}
use Rattle.truth_tables.proofs.Cut.{row_added}
use Rattle.truth_tables.proofs.tuple_tables.TupleTable.push_entries.Goals as goal

pub returns : goal.returns
returns g c = λ f h.
    row_added c.self.inside.cells.items (row c.args.size f) c.put_entries.new.cells.items c.self.inside.spans.items c.put.new.items.items (record { start = c.in_ok-start.start; len = c.args.size })
    c.self.invariant (c.in_ok-put_entries.ensures.entries f h) (omega (arith, c.in_ok-start.ensures, c.len.ensures)) (sym (length-map-range_with_len f 0 c.args.size)) c.in_ok-put.ensures.ok
    ∙ ap (λ (rows : List (List _)). rows ++ row c.args.size f ∷ []) c.self.view_is
