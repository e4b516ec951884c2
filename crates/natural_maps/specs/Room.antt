-- The cells of a presheaf by its sizes alone.
use Rattle.std.specs.Prelude.{◌≡◌, ℕ, ◌<◌, ◌≤◌, List, [], Option, Some, None}
use Rattle.topos_model.specs.categories.Category.{Category}
use Rattle.topos_model.specs.types.Types.{Presheaf}
use Rattle.topos_model.specs.statements.Cells.{presheaf_cells}

-- the cells of a presheaf with these sizes
abbrev pub sized_cells : Category → List ℕ → ℕ
sized_cells k sizes = presheaf_cells k (record { sizes = sizes; along = [] })

-- the presheaf has more cells than there is room for
abbrev pub IsOverRoom : Category → ℕ → Presheaf → Type 0
IsOverRoom k room Z = room < presheaf_cells k Z

-- the most room that a construction is given
abbrev pub max_room : ℕ
max_room = 64000000

-- the counts as sizes, where they have no more cells than there is room for
abbrev pub AreSizesWithin : Category → List ℕ → ℕ → Option (List ℕ) → Type 0
AreSizesWithin k counts room (Some sizes) = (sizes ≡ counts) × (sized_cells k counts ≤ room)
AreSizesWithin k counts room None = room < sized_cells k counts
