-- Tables of the entries from a place on, and the rows of listed restrictions.
use Rattle.std.proofs.Common.{◌≡◌, ℕ, ◌<◌, List, length, get_or, map, drop, sym, ◌∙◌, arith}
use Rattle.std.specs.List.{range_with_len}
use Rattle.std.proofs.lemmas.List.{ext_get_or}
use Rattle.std.proofs.lemmas.List.FromFn.{get_or-map-range_with_len, length-map-range_with_len}
use Rattle.topos_model.specs.categories.Listed.{entry_at}

-- a row with the number that is listed for each element from place i on
pub record HasEntriesFrom (entries : List (ℕ × ℕ)) (size i : ℕ) (row : List ℕ) : Type 0 where
  pub places : length row ≡ size
  pub values : (x : ℕ) → x < size → get_or row x 0 ≡ entry_at (drop i entries) x

pub all_written : (entries : List (ℕ × ℕ)) (size : ℕ) (row : List ℕ) → HasEntriesFrom entries size 0 row → row ≡ map (entry_at entries) (range_with_len 0 size)
all_written entries size row written =
    ext_get_or 0 row _ (written.places ∙ sym (length-map-range_with_len (entry_at entries) 0 size))
    (λ x low.
    let within : x < size = omega (arith, written.places) in
    written.values x within ∙ sym (get_or-map-range_with_len (entry_at entries) 0 size x x 0 within (omega arith)))
