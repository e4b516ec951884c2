use Rattle.std.proofs.Common.{◌≡◌, ℕ, ◌-◌, ◌%◌, ◌<◌, true, length, get_or}
use Rattle.natural_search.specs.Domains.{allows}
use Rattle.natural_search.proofs.residues.with_images.Given as goal

abbrev pub invariant-places : goal.invariant-places
invariant-places l = record {
  aligned : l.w % 64 ≡ l.residue;
  old : (v : ℕ) → allows l.mask v ≡ true → allows l.images v ≡ true;
  new : (v : ℕ) → v < l.w → v < length l.row → v % 64 ≡ l.residue → allows l.images (get_or l.row v 0) ≡ true;
}

abbrev pub decreases-places : goal.decreases-places
decreases-places l = length l.row - l.w
