-- Listed presheaves and maps from tables: each row has the images of the first elements.
use Rattle.std.specs.Prelude.{ℕ, ◌+◌, ◌<◌, ◌≤◌, List, [], map, length, get_or, flat_map}
use Rattle.std.specs.List.{range_with_len}
use Rattle.topos_model.specs.declared.raw.RawAlong.{RawAlong}
use Rattle.topos_model.specs.declared.raw.RawEntry.{RawEntry}
use Rattle.topos_model.specs.categories.Category.{Category, dom, cod}

abbrev pub table_entries : List ℕ → List (ℕ × ℕ)
table_entries row = map (λ x. (x, get_or row x 0)) (range_with_len 0 (length row))

abbrev pub along_at : ℕ → List (List ℕ) → ℕ → RawAlong
along_at objects rows i = record { arrow = objects + i; entries = table_entries (get_or rows i []) }

-- a row for each of the first declared arrows
abbrev pub table_along : ℕ → List (List ℕ) → List RawAlong
table_along objects rows = map (along_at objects rows) (range_with_len 0 (length rows))

abbrev pub row_images : ℕ → List ℕ → List RawEntry
row_images c row = map (λ x. record { at = c; from = x; to = get_or row x 0 }) (range_with_len 0 (length row))

-- a row for each of the first objects
abbrev pub table_images : List (List ℕ) → List RawEntry
table_images rows = flat_map (λ c. row_images c (get_or rows c [])) (range_with_len 0 (length rows))

-- a row has no more places than the first number, and numbers below the second
abbrev pub IsRowWithin : List ℕ → ℕ → ℕ → Type 0
IsRowWithin row places bound = (length row ≤ places) × ((x : ℕ) → x < length row → get_or row x 0 < bound)

-- rows for declared arrows, from elements at the codomain to elements at the domain
pub record AreRestrictions (k : Category) (sizes : List ℕ) (rows : List (List ℕ)) : Type 0 where
  pub arrows : k.objects + length rows ≤ length k.ends
  pub each : (i : ℕ) → i < length rows → IsRowWithin (get_or rows i []) (get_or sizes (cod k (k.objects + i)) 0) (get_or sizes (dom k (k.objects + i)) 0)
