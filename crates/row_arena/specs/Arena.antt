-- Rows of numbers in pages.
use Rattle.std.specs.Prelude.{ℕ, ◌+◌, ◌<◌, ◌≤◌, List, [], ◌∷◌, ◌++◌, length, take, drop, map, get_or}
use Rattle.row_arena.specs.declared.arena.Place.{Place}
use Rattle.row_arena.specs.Page.{Cells}

-- what a clause sees of an arena: its rows, and how many rows and cells it takes without growing
pub record Rows : Type 0 where
  pub rows : List (List ℕ)
  pub spare_rows : ℕ
  pub spare_cells : ℕ

-- a page with nothing
abbrev pub no_cells : Cells
no_cells = record { items = []; room = 0 }

-- the cells of the page of a place
abbrev pub page_at : List Cells → ℕ → List ℕ
page_at pages k = (get_or pages k no_cells).items

-- the row at a place
abbrev pub row_at : List Cells → Place → List ℕ
row_at pages place = take place.len (drop place.at (page_at pages place.page))

-- a place lies within its page
pub record Fits (pages : List Cells) (place : Place) : Type 0 where
  pub page : place.page < length pages
  pub cells : place.at + place.len ≤ length (page_at pages place.page)

-- the rows at the places
abbrev pub rows_at : List Cells → List Place → List (List ℕ)
rows_at pages places = map (λ place. row_at pages place) places

-- all pages, of which the last is still written
abbrev pub pages_of : List Cells → Cells → List Cells
pages_of full last = full ++ last ∷ []

-- how long the row at a place is
abbrev pub place_length : Place → ℕ
place_length place = place.len
