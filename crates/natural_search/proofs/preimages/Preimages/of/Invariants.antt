use Rattle.std.proofs.Common.{◌≡◌, ℕ, ◌+◌, ◌*◌, ◌%◌, ◌<◌, [], true, length, get_or}
use Rattle.natural_search.specs.Squares.{act}
use Rattle.natural_search.specs.Domains.{allows}
use Rattle.natural_search.proofs.preimages.Preimages.of.Given as goal

abbrev pub invariant-loop-f : goal.invariant-loop-f
invariant-loop-f l = record {
  places : length l.masks.items ≡ length l.along * 64;
  each : (g w : ℕ) → g < l.f → w < length (get_or l.along g []) → allows (get_or l.masks.items (g * 64 + act l.along g w % 64) 0) w ≡ true;
}
