use Rattle.std.proofs.Common.{◌≡◌, ℕ, ◌<◌, true, length, get_or}
use Rattle.natural_search.specs.Domains.{allows}
use Rattle.natural_search.proofs.domains.full_masks.Given as goal

abbrev pub invariant-loop-bound : goal.invariant-loop-bound
invariant-loop-bound l = record {
  places : length l.masks.items ≡ l.bound-index;
  all : (p v : ℕ) → p < l.bound-index → v < get_or l.bounds p 0 → allows (get_or l.masks.items p 0) v ≡ true;
}
