use Rattle.std.proofs.Common.{◌≡◌, ℕ, ◌+◌, ◌≤◌, true, length, get_or}
use Rattle.natural_search.specs.declared.squares.Square.{Square}
use Rattle.natural_search.specs.Squares.{element_of}
use Rattle.natural_search.specs.Domains.{AllFit, Narrows}
use Rattle.natural_search.proofs.domains.Domains.narrow_below.Given as goal

abbrev pub invariant-chain : goal.invariant-chain
invariant-chain l = record {
  low : l.next ≤ length l.squares;
  key : (i : ℕ) (d : Square) → i + 1 ≡ l.next → element_of (get_or l.squares i d) ≡ l.place;
  narrows : Narrows (AllFit l.along l.squares) l.fn.self l.self true;
}

abbrev pub decreases-chain : goal.decreases-chain
decreases-chain l = l.next
