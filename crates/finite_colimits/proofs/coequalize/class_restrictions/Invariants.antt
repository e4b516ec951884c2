use Rattle.std.proofs.Common.{◌≡◌, map}
use Rattle.std.specs.List.{range_with_len}
use Rattle.finite_colimits.specs.Classes.{class_row}
use Rattle.finite_colimits.proofs.coequalize.class_restrictions.Given as goal

abbrev pub invariant-loop-f : goal.invariant-loop-f
invariant-loop-f l = l.rows ≡ map (class_row l.cat l.y l.numbers l.least) (range_with_len 0 l.f)
