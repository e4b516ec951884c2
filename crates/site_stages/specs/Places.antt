-- Places of the members of a list.
use Rattle.std.specs.Prelude.{ℕ, List, filter, length, get_or}
use Rattle.std.specs.List.{range_with_len}
use Rattle.topos_model.specs.categories.Category.{has}

-- the places in xs of the members of ys
unfoldable pub places_among : List ℕ → List ℕ → List ℕ
places_among xs ys = filter (λ j. has (get_or xs j 0) ys) (range_with_len 0 (length xs))
