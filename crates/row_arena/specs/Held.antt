-- The cells that a page holds.
use Rattle.std.specs.Prelude.{[], take, Option, None, Some}
use Rattle.std.specs.Mem.Slots.{slots_len, slots_items}
use Rattle.row_arena.specs.declared.page.Places.{Places}
use Rattle.row_arena.specs.Page.{Cells}

-- the places that are written, of all that there are
abbrev pub cells_of : Option Places → Cells
cells_of None = record { items = []; room = 0 }
cells_of (Some places) = record { items = take places.written (slots_items places.slots); room = slots_len places.slots }
