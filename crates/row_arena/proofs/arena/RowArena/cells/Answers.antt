use Rattle.std.proofs.Common.{◌∙◌, sym, ap}
use Rattle.std.specs.Prelude.{length}
use Rattle.std.specs.List.{sum_by}
use Rattle.row_arena.specs.Arena.{pages_of}
use Rattle.row_arena.proofs.Keeping.{cells_are}
use Rattle.row_arena.proofs.arena.RowArena.cells.Goals as goal

pub returns : goal.returns
returns c =
    let a = c.self.inside in
    record { cells = c.self.invariant.counted ∙ sym (cells_are (pages_of a.full.items a.last) a.places.items c.self.invariant.fit) ∙ ap (λ rows. sum_by length rows.rows) c.self.view_is }
