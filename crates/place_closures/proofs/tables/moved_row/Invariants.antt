use Rattle.std.proofs.Common.{◌≡◌, take}
use Rattle.place_closures.specs.Pairs.{moved}
use Rattle.place_closures.proofs.tables.moved_row.Given as goal

abbrev pub invariant-loop-g : goal.invariant-loop-g
invariant-loop-g g l = l.row ≡ moved l.cat (g.X.Elements.size l.x) (g.X.Elements.restriction l.x) l.c l.f (take l.g-index l.gs) l.w
