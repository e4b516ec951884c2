use Rattle.std.proofs.Common.{◌≡◌}
use Rattle.std.specs.List.{flat_map, range_with_len}
use Rattle.named_functors.specs.NamedRows.{restriction_row}
use Rattle.named_functors.proofs.rows.rows_over.Given as goal

abbrev pub invariant-elements : goal.invariant-elements
invariant-elements l = l.restrictions ≡ flat_map (restriction_row l.cat l.functor l.c) (range_with_len 0 l.x)
