-- The search for all fitting assignments, place by place.
use Rattle.std.specs.Prelude.{ℕ, zero, suc, ◌+◌, ◌-◌, ◌*◌, Bool, List, [], ◌∷◌, ◌++◌, map, length, get_or, take, drop, filter, flat_map}
use Rattle.std.specs.List.{range_with_len}
use Rattle.topos_model.specs.presheaves.NaturalMaps.{choices}
use Rattle.natural_search.specs.declared.squares.Square.{Square}
use Rattle.natural_search.specs.Squares.{is_fitting}

-- all assignments of numbers below these bounds, lexicographic
abbrev pub assignments : List ℕ → List (List ℕ)
assignments bounds = choices (map (range_with_len 0) bounds)

-- those at which all squares fit
unfoldable pub fitting : List (List ℕ) → List Square → List ℕ → List (List ℕ)
fitting along squares bounds = filter (is_fitting along squares) (assignments bounds)

module _ (natural : List ℕ → Bool) (bounds : List ℕ) where
  -- the natural assignments that begin with these numbers
  unfoldable pub under : List ℕ → List (List ℕ)
  under prefix = filter natural (map (λ rest. prefix ++ rest) (assignments (drop (length prefix) bounds)))

  -- those in which a number from v on comes next
  unfoldable pub under_from : List ℕ → ℕ → List (List ℕ)
  under_from prefix v = flat_map (λ w. under (prefix ++ w ∷ [])) (range_with_len v (get_or bounds (length prefix) 0 - v))

  -- those that come after all that begin with the first d numbers
  unfoldable pub later : List ℕ → ℕ → List (List ℕ)
  later values zero = []
  later values (suc d) = under_from (take d values) (get_or values d 0 + 1) ++ later values d

-- the steps of a search through all assignments
unfoldable pub steps : List ℕ → ℕ
steps [] = 1
steps (b ∷ bounds) = b * (steps bounds + 1) + 1

-- the steps that are left where the first d numbers are set and a number from v on comes next
unfoldable pub steps_left : List ℕ → List ℕ → ℕ → ℕ → ℕ
steps_left bounds values zero v = (get_or bounds 0 0 - v) * (steps (drop 1 bounds) + 1) + 1
steps_left bounds values (suc d) v = (get_or bounds (suc d) 0 - v) * (steps (drop (suc (suc d)) bounds) + 1) + 1 + steps_left bounds values d (get_or values d 0 + 1)

-- the natural assignments that are left where the first d numbers are set and a number from v on comes next
abbrev pub left : (List ℕ → Bool) → List ℕ → List ℕ → ℕ → ℕ → List (List ℕ)
left natural bounds values d v = under_from natural bounds (take d values) v ++ later natural bounds values d
