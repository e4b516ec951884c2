-- What lists of truth values say of sublists.
use Rattle.std.specs.Prelude.{◌≡◌, ℕ, Bool, List, length, map, filter}
use Rattle.finite_lists.specs.Members.{In}
use Rattle.finite_lists.specs.Sublists.{sublists}
use Rattle.closed_sets.specs.Closed.{bits, chosen, is_closed, closed_lists}

-- the sets of places of a list, in order, choose its sublists, in order
abbrev pub BitsAreSublists : Type 0
BitsAreSublists = (xs : List ℕ) → map (chosen xs) (bits (length xs)) ≡ sublists xs

-- so where a test of sublists says which sets are closed, the closed sets choose the sublists that pass it, in order
abbrev pub ClosedListsAreSublists : Type 0
ClosedListsAreSublists =
    (xs : List ℕ) (closure : List Bool → List Bool) (passes : List ℕ → Bool) →
    ((a : List Bool) → In (bits (length xs)) a → is_closed closure a ≡ passes (chosen xs a)) →
    map (chosen xs) (closed_lists (length xs) closure) ≡ filter passes (sublists xs)
