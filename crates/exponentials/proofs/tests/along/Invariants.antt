use Rattle.std.proofs.Common.{◌≡◌, map}
use Rattle.std.specs.List.{range_with_len}
use Rattle.natural_maps.specs.Tables.{along_at}
use Rattle.exponentials.proofs.tests.along.Given as goal

abbrev pub invariant-loop-i : goal.invariant-loop-i
invariant-loop-i l = l.along ≡ map (along_at l.objects l.rows) (range_with_len 0 l.i)
