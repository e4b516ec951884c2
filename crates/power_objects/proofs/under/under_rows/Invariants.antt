use Rattle.std.proofs.Common.{◌≡◌, map, take}
use Rattle.power_objects.specs.SubsetRows.{under}
use Rattle.power_objects.proofs.under.under_rows.Given as goal

abbrev pub invariant-loop-f : goal.invariant-loop-f
invariant-loop-f g l = l.rows ≡ map (under l.cat (g.X.Elements.size l.x) (g.X.Elements.restriction l.x) l.c) (take l.f-index l.f-items)
