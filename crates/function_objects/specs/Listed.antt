-- The natural assignments at each object, as they are listed.
use Rattle.std.specs.Prelude.{◌≡◌, ℕ, ◌+◌, ◌*◌, ◌<◌, ◌≤◌, List, [], length, get_or}
use Rattle.topos_model.specs.categories.Category.{Category, into}
use Rattle.natural_search.specs.Rows.{AreRows}
use Rattle.function_objects.specs.declared.listing.Listed.{Listed}
use Rattle.function_objects.specs.Functions.{function_rows, function_bounds, function_cells}

abbrev pub listed_at : List Listed → ℕ → Listed
listed_at all c = get_or all c (record { rows = record { count = 0; numbers = [] }; places = 0 })

-- all rows at c, and how many places they have
pub record IsListed (k : Category) (size : ℕ → ℕ) (move : ℕ → ℕ → ℕ) (size' : ℕ → ℕ) (move' : ℕ → ℕ → ℕ) (c : ℕ) (listed : Listed) : Type 0 where
  pub rows : AreRows (function_rows k size move size' move' c) listed.rows
  pub places : listed.places ≡ length (function_bounds k size move size' c)

-- the same at each object, and all cells are within the room
pub record AreListed (k : Category) (size : ℕ → ℕ) (move : ℕ → ℕ → ℕ) (size' : ℕ → ℕ) (move' : ℕ → ℕ → ℕ) (room : ℕ) (all : List Listed) : Type 0 where
  pub objects : length all ≡ k.objects
  pub each : (c : ℕ) → c < k.objects → IsListed k size move size' move' c (listed_at all c)
  pub within : function_cells k size move size' move' ≤ room
