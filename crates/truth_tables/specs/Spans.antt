-- Rows that stand behind one another in one list of cells.
use Rattle.std.specs.Prelude.{ℕ, ◌+◌, ◌<◌, ◌≤◌, List, map, length, get_or, take, drop}
use Rattle.truth_tables.specs.declared.tuple_tables.Span.{Span}

-- the cells of a span
abbrev pub cut : {A : Type 0} → List A → Span → List A
cut cells span = take span.len (drop span.start cells)

abbrev pub rows_of : {A : Type 0} → List A → List Span → List (List A)
rows_of cells spans = map (λ span. cut cells span) spans

-- the spans lie among the cells
pub record AreWithin {A : Type 0} (cells : List A) (spans : List Span) : Type 0 where
  pub within : (k : ℕ) (d : Span) → k < length spans → (get_or spans k d).start + (get_or spans k d).len ≤ length cells
