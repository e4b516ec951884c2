use Rattle.std.proofs.Common.{◌≡◌, ℕ, ◌+◌, ◌%◌, ◌<◌, true, length, get_or}
use Rattle.natural_search.specs.Domains.{allows}
use Rattle.natural_search.proofs.preimages.add_row.Given as goal

abbrev pub invariant-loop-w : goal.invariant-loop-w
invariant-loop-w l = record {
  places : length l.masks ≡ length l.fn.masks;
  old : (i v : ℕ) → allows (get_or l.fn.masks i 0) v ≡ true → allows (get_or l.masks i 0) v ≡ true;
  row : (v : ℕ) → v < l.w → allows (get_or l.masks (l.start + get_or l.row v 0 % 64) 0) v ≡ true;
}
