use Rattle.std.proofs.Common.{◌≡◌, ℕ, ◌<◌, length, get_or}
use Rattle.natural_search.specs.Squares.{last_before}
use Rattle.natural_search.proofs.chains.Chains.of.Given as goal

abbrev pub invariant-loop-i : goal.invariant-loop-i
invariant-loop-i l = record {
  first_places : length l.heads.items ≡ l.count;
  first : (p : ℕ) → p < l.count → get_or l.heads.items p 0 ≡ last_before l.keys p l.i;
  next_places : length l.links ≡ l.i;
  next : (j : ℕ) → j < l.i → get_or l.links j 0 ≡ last_before l.keys (get_or l.keys j 0) j;
}
