use Rattle.std.proofs.Common.{◌≡◌, map}
use Rattle.std.specs.List.{range_with_len}
use Rattle.finite_limits.specs.Parts.{part_row}
use Rattle.finite_limits.proofs.kept.part_restrictions.Given as goal

abbrev pub invariant-loop-f : goal.invariant-loop-f
invariant-loop-f l = l.rows ≡ map (part_row l.cat l.x l.elements l.ranks) (range_with_len 0 l.f)
