use Rattle.std.proofs.Common.{◌≡◌, ◌≤◌, length, take}
use Rattle.natural_search.specs.Rows.{joined}
use Rattle.natural_search.specs.Search.{fitting, steps_left}
use Rattle.natural_search.proofs.PlaceSearch.{IsState}
use Rattle.natural_search.proofs.GuardedSearch.{IsGuarded}
use Rattle.natural_search.proofs.search.search.Given as goal

abbrev pub invariant-places : goal.invariant-places
invariant-places l = record {
  state : IsState l.along l.squares l.bounds l.count l.values.items l.place l.next;
  guarded : IsGuarded l.along l.squares l.bounds l.domains l.levels.items l.values.items l.place;
  numbers : l.numbers ≡ joined (take l.count (fitting l.along l.squares l.bounds));
  within : l.count ≤ length (fitting l.along l.squares l.bounds);
  room : l.count ≤ l.room;
}

abbrev pub decreases-places : goal.decreases-places
decreases-places l = steps_left l.bounds l.values.items l.place l.next
