use Rattle.std.proofs.Common.{◌≡◌, ℕ, ◌<◌, true, false, length, get_or}
use Rattle.natural_search.specs.Domains.{allows}
use Rattle.natural_search.proofs.residues.image.Given as goal

abbrev pub invariant-residues : goal.invariant-residues
invariant-residues l = (w : ℕ) → w < length l.row → allows l.mask w ≡ true → allows l.rest w ≡ false → allows l.image (get_or l.row w 0) ≡ true

abbrev pub decreases-residues : goal.decreases-residues
decreases-residues l = l.rest
