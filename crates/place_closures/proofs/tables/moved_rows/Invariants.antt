use Rattle.std.proofs.Common.{◌≡◌, map}
use Rattle.std.specs.List.{range_with_len}
use Rattle.place_closures.specs.Pairs.{moved}
use Rattle.place_closures.proofs.tables.moved_rows.Given as goal

abbrev pub invariant-loop-w : goal.invariant-loop-w
invariant-loop-w g l = l.rows ≡ map (moved l.cat (g.X.Elements.size l.x) (g.X.Elements.restriction l.x) l.c l.f l.gs) (range_with_len 0 l.w)
