use Rattle.std.proofs.Common.{◌≡◌, ◌+◌, length, map}
use Rattle.std.specs.List.{range_with_len}
use Rattle.type_rows.proofs.CellSums.{cells_below}
use Rattle.power_objects.specs.SubsetRows.{closed_sets, set_cost}
use Rattle.power_objects.proofs.listing.all_sets.Given as goal

abbrev pub invariant-loop-c : goal.invariant-loop-c
invariant-loop-c g l = record {
  spent : l.left + cells_below (λ c. length (closed_sets l.site (g.X.Elements.size l.x) (g.X.Elements.restriction l.x) c)) (λ c. set_cost l.site.category (g.X.Elements.size l.x) (g.X.Elements.restriction l.x) c) l.c ≡ l.room;
  made : l.all ≡ map (closed_sets l.site (g.X.Elements.size l.x) (g.X.Elements.restriction l.x)) (range_with_len 0 l.c);
}
