use Rattle.std.proofs.Common.{◌≡◌, ℕ, ◌+◌, ◌%◌, ◌≤◌, true, length, get_or}
use Rattle.natural_search.specs.declared.squares.Square.{Square}
use Rattle.natural_search.specs.Squares.{restricted_of}
use Rattle.natural_search.specs.Domains.{AllFit, Narrows}
use Rattle.natural_search.proofs.domains.Domains.narrow_above.Given as goal

abbrev pub invariant-chain : goal.invariant-chain
invariant-chain l = record {
  low : l.next ≤ length l.squares;
  key : (i : ℕ) (d : Square) → i + 1 ≡ l.next → restricted_of (get_or l.squares i d) ≡ l.place;
  narrows : Narrows (λ values. AllFit l.along l.squares values × (get_or values l.place 0 % 64 ≡ l.residue)) l.fn.self l.self true;
}

abbrev pub decreases-chain : goal.decreases-chain
decreases-chain l = l.next
