use Rattle.std.proofs.Common.{◌≡◌, ℕ, ◌+◌, ◌<◌, ◌≤◌, length, get_or}
use Rattle.natural_search.specs.declared.squares.Square.{Square}
use Rattle.natural_search.specs.Squares.{Fits, later_place}
use Rattle.natural_search.proofs.squares.all_fit.Given as goal

abbrev pub invariant-chain : goal.invariant-chain
invariant-chain l = record {
  low : l.next ≤ length l.squares;
  key : (i : ℕ) (d : Square) → i + 1 ≡ l.next → later_place (get_or l.squares i d) ≡ l.place;
  fit : (s : ℕ) (d : Square) → l.next ≤ s → s < length l.squares → later_place (get_or l.squares s d) ≡ l.place → Fits l.along l.values (get_or l.squares s d);
}

abbrev pub decreases-chain : goal.decreases-chain
decreases-chain l = l.next
