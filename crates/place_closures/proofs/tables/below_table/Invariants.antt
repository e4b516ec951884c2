use Rattle.std.proofs.Common.{◌≡◌, map, take}
use Rattle.std.specs.List.{flat_map, range_with_len}
use Rattle.topos_model.specs.categories.Category.{into, dom}
use Rattle.place_closures.specs.Pairs.{moved}
use Rattle.place_closures.proofs.tables.below_table.Given as goal

abbrev pub invariant-loop-f : goal.invariant-loop-f
invariant-loop-f g l =
    l.rows ≡ flat_map (λ f. map (moved l.cat (g.X.Elements.size l.x) (g.X.Elements.restriction l.x) l.c f (into l.cat (dom l.cat f))) (range_with_len 0 (g.X.Elements.size l.x (dom l.cat f)))) (take l.f-index l.f-items)
