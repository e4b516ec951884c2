-- Places of two parts each: a set is completed by each place both of whose parts are parts of its places.
use Rattle.std.specs.Prelude.{ℕ, ◌+◌, ◌-◌, ◌/◌, ◌%◌, Bool, ◌&&◌, ◌||◌, cond, List, length, map, eqb, ltb}
use Rattle.std.specs.List.{range_with_len}
use Rattle.closed_sets.specs.Ideals.{is_below_some}

-- whether u is a part of the place j
abbrev pub is_part : (ℕ → ℕ × ℕ) → ℕ → ℕ → Bool
is_part parts u j = eqb (parts j).0 u || eqb (parts j).1 u

-- whether u is a part of a place of the set
abbrev pub is_part_of_some : (ℕ → ℕ × ℕ) → ℕ → List Bool → Bool
is_part_of_some parts u a = is_below_some (is_part parts) u 0 a

-- whether both parts of the place k are parts of places of the set
abbrev pub has_parts : (ℕ → ℕ × ℕ) → List Bool → ℕ → Bool
has_parts parts a k = is_part_of_some parts (parts k).0 a && is_part_of_some parts (parts k).1 a

-- all such places
unfoldable pub completed : (ℕ → ℕ × ℕ) → List Bool → List Bool
completed parts a = map (has_parts parts a) (range_with_len 0 (length a))

-- fourteen places, each its own part, and then a place for each pair of one of the first seven and one of the others
unfoldable pub pair_parts : ℕ → ℕ × ℕ
pair_parts k = cond (ltb k 14) (k, k) ((k - 14) / 7, 7 + (k - 14) % 7)
