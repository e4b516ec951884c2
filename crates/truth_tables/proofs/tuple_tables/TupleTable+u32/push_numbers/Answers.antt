use Rattle.std.proofs.Common.{ℕ, refl, ap, ◌∙◌, List, ◌++◌, ◌∷◌, [], arith}
use Rattle.truth_tables.proofs.Cut.{row_added}
use Rattle.truth_tables.proofs.tuple_tables.TupleTable+u32.push_numbers.Goals as goal

pub returns : goal.returns
returns c =
    let numbers = c.args.numbers.now in
    row_added c.self.inside.cells.items numbers c.extend_from_slice.new.self.items c.self.inside.spans.items c.put.new.items.items _ c.self.invariant c.in_ok-extend_from_slice.ensures.items
    (omega (arith, c.in_ok-start.ensures, c.len.ensures)) refl c.in_ok-put.ensures.ok
    ∙ ap (λ (rows : List (List ℕ)). rows ++ numbers ∷ []) c.self.view_is
