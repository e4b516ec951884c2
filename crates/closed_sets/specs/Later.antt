-- The closed sets after a set, by the first place that is new.
use Rattle.std.specs.Prelude.{ℕ, zero, suc, ◌-◌, Bool, true, false, cond, List, [], ◌∷◌, ◌++◌, get_or, take, replicate}
use Rattle.closed_sets.specs.Closed.{is_closed}

-- the closed lists that are p and then m further places
unfoldable pub closed_from : (List Bool → List Bool) → List Bool → ℕ → List (List Bool)
closed_from closure p zero = cond (is_closed closure p) (p ∷ []) []
closed_from closure p (suc m) = closed_from closure (p ++ false ∷ []) m ++ closed_from closure (p ++ true ∷ []) m

-- those that agree with a before the place j, and have j, where a has not
unfoldable pub block : ℕ → (List Bool → List Bool) → List Bool → ℕ → List (List Bool)
block n closure a j = cond (get_or a j false) [] (closed_from closure (take j a ++ true ∷ []) (n - j - 1))

-- those whose first place that differs from a is below j, in order
unfoldable pub blocks : ℕ → (List Bool → List Bool) → List Bool → ℕ → List (List Bool)
blocks n closure a zero = []
blocks n closure a (suc j) = block n closure a j ++ blocks n closure a j

-- the closed lists after a
unfoldable pub later : ℕ → (List Bool → List Bool) → List Bool → List (List Bool)
later n closure a = blocks n closure a n

-- the list that is closed next: a before the place j, and j
unfoldable pub candidate : ℕ → List Bool → ℕ → List Bool
candidate n a j = (take j a ++ true ∷ []) ++ replicate (n - j - 1) false
