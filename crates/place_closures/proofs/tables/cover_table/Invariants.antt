use Rattle.std.proofs.Common.{◌≡◌, map, take}
use Rattle.std.specs.List.{flat_map, range_with_len}
use Rattle.topos_model.specs.categories.Category.{dom}
use Rattle.topos_model.specs.topologies.LeastCovers.{least}
use Rattle.place_closures.specs.Pairs.{moved}
use Rattle.place_closures.proofs.tables.cover_table.Given as goal

abbrev pub invariant-loop-f : goal.invariant-loop-f
invariant-loop-f g l =
    l.rows ≡ flat_map (λ f. map (moved l.site.category (g.X.Elements.size l.x) (g.X.Elements.restriction l.x) l.c f (least l.site (dom l.site.category f))) (range_with_len 0 (g.X.Elements.size l.x (dom l.site.category f)))) (take l.f-index l.f-items)
