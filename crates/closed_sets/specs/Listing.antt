-- What `list_closed` answers.
use Rattle.std.specs.Prelude.{◌≡◌, ℕ, ◌<◌, ◌≤◌, Bool, List, length}
use Rattle.closed_sets.specs.declared.list.ClosedListing.{ClosedListing}
use Rattle.closed_sets.specs.declared.list.ClosedListing.TheVariants.{All, Over}

-- all the lists, or `Over` exactly where there are more than the room
abbrev pub IsListing : List (List Bool) → ℕ → ClosedListing → Type 0
IsListing lists room (All rows) = (rows ≡ lists) × (length lists ≤ room)
IsListing lists room Over = room < length lists
