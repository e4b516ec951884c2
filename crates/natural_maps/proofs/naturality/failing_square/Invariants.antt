use Rattle.std.proofs.Common.{◌≡◌, ◌-◌, length}
use Rattle.std.specs.List.{range_with_len}
use Rattle.finite_lists.specs.First.{first}
use Rattle.natural_maps.specs.Components.{pair_from, failing_square}
use Rattle.natural_maps.proofs.naturality.failing_square.Given as goal

abbrev pub invariant-loop-f : goal.invariant-loop-f
invariant-loop-f l = failing_square l.cat l.p l.q l.rows ≡ first (pair_from l.cat l.p l.q l.rows) (range_with_len l.f (length l.cat.ends - l.f))
