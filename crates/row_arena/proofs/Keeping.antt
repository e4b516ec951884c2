-- Rows stay where they are while pages and places are added.
use Rattle.std.proofs.Common.{◌≡◌, ℕ, zero, suc, ◌+◌, ◌<◌, ◌≤◌, List, [], ◌∷◌, ◌++◌, length, take, drop, All, get_or, arith, refl, ap, sym, ◌∙◌, append-nil, length-drop, take_all, ◌-◌}
use Rattle.std.proofs.lemmas.Grind.{common_steps}
use Rattle.std.proofs.lemmas.List.{take-append-le, drop-append-le, length-take-le}
use Rattle.std.proofs.lemmas.List.Elements.{All-append}
use Rattle.std.specs.List.{sum_by}
use Rattle.std.proofs.lemmas.List.Sums.{sum_by-cons, sum_by-append, sum_by-take-drop}
use Rattle.std.proofs.Math.ListN.{get_or-append}
use Rattle.std.proofs.Math.Seq.{get_or-append_seam, drop-append_seam}
use Rattle.row_arena.specs.declared.arena.Place.{Place}
use Rattle.row_arena.specs.Page.{Cells}
use Rattle.row_arena.specs.Arena.{no_cells, page_at, row_at, rows_at, pages_of, place_length, Fits}

-- pages that show the same row at every place that fits
abbrev pub Keeps : List Cells → List Cells → Type 0
Keeps old new = (place : Place) → Fits old place → row_at new place ≡ row_at old place

pub rows_kept : (old new : List Cells) → Keeps old new → (places : List Place) → All (λ place. Fits old place) places → rows_at new places ≡ rows_at old places
rows_kept old new same [] fits = refl
rows_kept old new same (place ∷ places) fits =
    ap (λ row. row ∷ rows_at new places) (same place (fits zero place (omega arith))) ∙ ap (λ rows. row_at old place ∷ rows) (rows_kept old new same places (λ k d lt. fits (suc k) d (omega (arith, lt))))

-- a page more behind the others
pub page_added : (pages : List Cells) (page : Cells) → Keeps pages (pages ++ page ∷ [])
page_added pages page place fits =
    let cells_of : Cells → List ℕ = λ cells. take place.len (drop place.at cells.items) in
    ap cells_of (get_or-append pages (page ∷ []) no_cells place.page fits.page)

-- each page is as it was, or longer
longer : (full : List Cells) (last next : Cells) (row : List ℕ) → next.items ≡ last.items ++ row
    → (k : ℕ) → (more : List ℕ) × (page_at (pages_of full next) k ≡ page_at (pages_of full last) k ++ more)
longer [] last next row grown zero = (row, grown)
longer [] last next row grown (suc k) = ([], refl)
longer (page ∷ pages) last next row grown zero = ([], sym (append-nil page.items))
longer (page ∷ pages) last next row grown (suc k) = longer pages last next row grown k

pub window_kept : (at len : ℕ) (xs more : List ℕ) → at + len ≤ length xs → take len (drop at (xs ++ more)) ≡ take len (drop at xs)
window_kept at len xs more le =
    let inside : len ≤ length (drop at xs) = grind (arith, common_steps) in
    ap (take len) (drop-append-le at xs more (omega (arith, le))) ∙ take-append-le len (drop at xs) more inside

-- cells more in the last page
pub page_written : (full : List Cells) (last next : Cells) (row : List ℕ) → next.items ≡ last.items ++ row → Keeps (pages_of full last) (pages_of full next)
page_written full last next row grown place fits =
    let (more, is) = longer full last next row grown place.page in
    ap (λ cells. take place.len (drop place.at cells)) is ∙ window_kept place.at place.len _ more fits.cells

-- the row that was written last
row_written : (full : List Cells) (last next : Cells) (row : List ℕ) → next.items ≡ last.items ++ row
    → (place : Place) → place.page ≡ length full → place.at ≡ length last.items → place.len ≡ length row → row_at (pages_of full next) place ≡ row
row_written full last next row grown place page at len =
    let cells : page_at (pages_of full next) place.page ≡ last.items ++ row =
    ap (λ k. page_at (pages_of full next) k) page ∙ ap (λ cells. cells.items) (get_or-append_seam full next [] no_cells) ∙ grown in
    ap (λ cells. take place.len (drop place.at cells)) cells
    ∙ ap (λ k. take place.len (drop k (last.items ++ row))) at
    ∙ ap (take place.len) (drop-append_seam last.items row)
    ∙ take_all place.len row (omega (arith, len))

map_last : (pages : List Cells) (places : List Place) (place : Place) → rows_at pages (places ++ place ∷ []) ≡ rows_at pages places ++ row_at pages place ∷ []
map_last pages [] place = refl
map_last pages (p ∷ places) place = ap (λ rows. row_at pages p ∷ rows) (map_last pages places place)

pub appended : (full : List Cells) (last next : Cells) (row : List ℕ) (places : List Place) (place : Place) → next.items ≡ last.items ++ row
    → place.page ≡ length full → place.at ≡ length last.items → place.len ≡ length row → All (λ place. Fits (pages_of full last) place) places
    → rows_at (pages_of full next) (places ++ place ∷ []) ≡ rows_at (pages_of full last) places ++ row ∷ []
appended full last next row places place grown page at len fits =
    map_last (pages_of full next) places place
    ∙ ap (λ rows. rows ++ row_at (pages_of full next) place ∷ []) (rows_kept _ _ (page_written full last next row grown) places fits)
    ∙ ap (λ r. rows_at (pages_of full last) places ++ r ∷ []) (row_written full last next row grown place page at len)

-- each page has at least the cells that it had
abbrev pub Grows : List Cells → List Cells → Type 0
Grows old new = (length old ≤ length new) × ((k : ℕ) → k < length old → length (page_at old k) ≤ length (page_at new k))

fits_kept : (old new : List Cells) → Grows old new → (place : Place) → Fits old place → Fits new place
fits_kept old new grows place fits =
    let page : place.page < length new = omega (arith, fits.page, grows.0) in
    let cells : place.at + place.len ≤ length (page_at new place.page) = omega (arith, fits.cells, grows.1 place.page fits.page) in
    record { page = page; cells = cells }

pub all_fits_kept : (old new : List Cells) → Grows old new → (places : List Place) → All (λ place. Fits old place) places → All (λ place. Fits new place) places
all_fits_kept old new grows places fits k d lt = fits_kept old new grows (get_or places k d) (fits k d lt)

pub page_added_grows : (pages : List Cells) (page : Cells) → Grows pages (pages ++ page ∷ [])
page_added_grows pages page =
    let longer : length pages ≤ length (pages ++ page ∷ []) = grind (arith, common_steps) in
    (longer, λ k lt. omega (arith, ap (λ cells. length cells.items) (get_or-append pages (page ∷ []) no_cells k lt)))

pub page_written_grows : (full : List Cells) (last next : Cells) (row : List ℕ) → next.items ≡ last.items ++ row → Grows (pages_of full last) (pages_of full next)
page_written_grows full last next row grown =
    let same : length (pages_of full last) ≤ length (pages_of full next) = grind (arith, common_steps) in (
      same,
      λ k lt.
          let (more, is) = longer full last next row grown k in
          let lengths : length (page_at (pages_of full next) k) ≡ length (page_at (pages_of full last) k ++ more) = ap length is in
          let sum : length (page_at (pages_of full last) k ++ more) ≡ length (page_at (pages_of full last) k) + length more = grind (arith, common_steps) in
          omega (arith, lengths, sum),
    )

one_fits : (pages : List Cells) (place : Place) → Fits pages place → All (λ place. Fits pages place) (place ∷ [])
one_fits pages place fits zero d lt = fits
one_fits pages place fits (suc k) d lt = absurd (omega (arith, lt))

-- the places after a row was put last
pub appended_fit : (full : List Cells) (last next : Cells) (row : List ℕ) (places : List Place) (place : Place) → next.items ≡ last.items ++ row
    → place.page ≡ length full → place.at ≡ length last.items → place.len ≡ length row → All (λ place. Fits (pages_of full last) place) places
    → All (λ place. Fits (pages_of full next) place) (places ++ place ∷ [])
appended_fit full last next row places place grown page at len fits =
    let few : length (pages_of full next) ≡ length full + 1 = grind (arith, common_steps) in
    let cells : page_at (pages_of full next) place.page ≡ last.items ++ row =
    ap (λ k. page_at (pages_of full next) k) page ∙ ap (λ cells. cells.items) (get_or-append_seam full next [] no_cells) ∙ grown in
    let lengths : length (page_at (pages_of full next) place.page) ≡ length (last.items ++ row) = ap length cells in
    let sum : length (last.items ++ row) ≡ length last.items + length row = grind (arith, common_steps) in
    All-append (λ place. Fits (pages_of full next) place) places (place ∷ [])
    (all_fits_kept (pages_of full last) (pages_of full next) (page_written_grows full last next row grown) places fits)
    (one_fits (pages_of full next) place (record { page = omega (arith, few, page); cells = omega (arith, lengths, sum, at, len) }))

-- rows are as long as their places say
row_length : (pages : List Cells) (place : Place) → Fits pages place → length (row_at pages place) ≡ place.len
row_length pages place fits =
    let left : length (drop place.at (page_at pages place.page)) ≡ length (page_at pages place.page) - place.at = length-drop place.at (page_at pages place.page) in
    length-take-le place.len (drop place.at (page_at pages place.page)) (omega (arith, left, fits.cells))

pub cells_are : (pages : List Cells) (places : List Place) → All (λ place. Fits pages place) places → sum_by length (rows_at pages places) ≡ sum_by place_length places
cells_are pages [] fits = refl
cells_are pages (place ∷ places) fits =
    let here : length (row_at pages place) ≡ place.len = row_length pages place (fits zero place (omega arith)) in
    let rest : sum_by length (rows_at pages places) ≡ sum_by place_length places = cells_are pages places (λ k d lt. fits (suc k) d (omega (arith, lt))) in
    sum_by-cons length (row_at pages place) (rows_at pages places) ∙ ap (λ n. n + sum_by length (rows_at pages places)) here ∙ ap (λ n. place.len + n) rest
    ∙ sym (sum_by-cons place_length place places)

add_zero : (n : ℕ) → n + 0 ≡ n
add_zero n = omega arith

-- the numbers of the rows with one row more
pub cells_appended : (places : List Place) (place : Place) → sum_by place_length (places ++ place ∷ []) ≡ sum_by place_length places + place.len
cells_appended places place = sum_by-append place_length places (place ∷ []) ∙ ap (λ n. sum_by place_length places + n) (sum_by-cons place_length place [] ∙ add_zero place.len)

-- the numbers of the rows after the first n
pub cells_cut : (places : List Place) (n : ℕ) → sum_by place_length (take n places) + sum_by place_length (drop n places) ≡ sum_by place_length places
cells_cut places n = sum_by-take-drop place_length places n
