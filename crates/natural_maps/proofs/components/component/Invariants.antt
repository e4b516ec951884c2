use Rattle.std.proofs.Common.{◌≡◌, ◌-◌, map}
use Rattle.std.specs.List.{range_with_len}
use Rattle.finite_lists.specs.First.{first}
use Rattle.natural_maps.specs.Components.{number_from, missing_at}
use Rattle.natural_maps.proofs.components.component.Given as goal

abbrev pub invariant-loop-x : goal.invariant-loop-x
invariant-loop-x l = record {
  row : l.row ≡ map (number_from l.images l.start) (range_with_len 0 l.x);
  search : first (missing_at l.images l.start l.c) (range_with_len 0 l.size) ≡ first (missing_at l.images l.start l.c) (range_with_len l.x (l.size - l.x));
}
