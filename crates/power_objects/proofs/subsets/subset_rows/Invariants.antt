use Rattle.std.proofs.Common.{◌≡◌, map, take}
use Rattle.std.specs.List.{flat_map}
use Rattle.power_objects.specs.SubsetRows.{digit, subset_row}
use Rattle.power_objects.proofs.subsets.subset_rows.Given as goal

abbrev pub invariant-loop-set : goal.invariant-loop-set
invariant-loop-set g l = record {
  digits : l.rows ≡ flat_map (map digit) (take l.set-index l.sets);
  numbers : l.restrictions ≡ flat_map (subset_row l.site (g.X.Elements.size l.x) (g.X.Elements.restriction l.x) l.c) (take l.set-index l.sets);
}
