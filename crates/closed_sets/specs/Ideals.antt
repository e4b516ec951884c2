-- Order ideals: the closure of a set of places under going down in an order of the places.
use Rattle.std.specs.Prelude.{ℕ, ◌+◌, Bool, false, ◌&&◌, ◌||◌, List, [], ◌∷◌, length, map, eqb, bit_and}
use Rattle.std.specs.List.{range_with_len}

-- whether the place k is below some place of the set, the first of which has the number i
abbrev pub is_below_some : (ℕ → ℕ → Bool) → ℕ → ℕ → List Bool → Bool
is_below_some below k i [] = false
is_below_some below k i (x ∷ a) = (x && below k i) || is_below_some below k (i + 1) a

-- the places below some place of the set
unfoldable pub lowered : (ℕ → ℕ → Bool) → List Bool → List Bool
lowered below a = map (λ k. is_below_some below k 0 a) (range_with_len 0 (length a))

-- numbers as sets of points, by their bits
abbrev pub is_subset : ℕ → ℕ → Bool
is_subset k j = eqb (bit_and k j) k
