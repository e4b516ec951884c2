use Rattle.std.proofs.Common.{◌≡◌, ◌+◌, ◌-◌, ◌≤◌, min, length}
use Rattle.natural_search.specs.FreePlaces.{free_choices}
use Rattle.natural_search.proofs.free_places.free_choices.Given as goal

abbrev pub invariant-places : goal.invariant-places
invariant-places l = record {
  low : l.place ≤ length l.bounds;
  choices : l.choices ≡ min (free_choices l.squares l.bounds l.place (length l.bounds - l.place)) (l.room + 1);
}

abbrev pub decreases-places : goal.decreases-places
decreases-places l = l.place
