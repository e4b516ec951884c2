use Rattle.std.proofs.Common.{◌≡◌, ◌-◌, map}
use Rattle.std.specs.List.{range_with_len}
use Rattle.finite_lists.specs.First.{first}
use Rattle.natural_maps.specs.Components.{listed_component, unlisted_at}
use Rattle.natural_maps.proofs.components.components.Given as goal

abbrev pub invariant-loop-c : goal.invariant-loop-c
invariant-loop-c l = record {
  rows : l.rows ≡ map (listed_component l.sizes l.entries) (range_with_len 0 l.c);
  search : first (unlisted_at l.sizes l.entries) (range_with_len 0 l.objects) ≡ first (unlisted_at l.sizes l.entries) (range_with_len l.c (l.objects - l.c));
}
