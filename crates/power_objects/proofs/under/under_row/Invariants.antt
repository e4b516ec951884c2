use Rattle.std.proofs.Common.{◌≡◌, ◌+◌, map, take}
use Rattle.std.specs.List.{flat_map, range_with_len}
use Rattle.topos_model.specs.categories.Category.{dom, compose}
use Rattle.place_closures.specs.Pairs.{start}
use Rattle.power_objects.proofs.under.under_row.Given as goal

abbrev pub invariant-loop-h : goal.invariant-loop-h
invariant-loop-h g l =
    l.row ≡ flat_map (λ h. map (λ w. start l.cat (g.X.Elements.size l.x) (g.X.Elements.restriction l.x) l.c (compose l.cat l.f h) + w) (range_with_len 0 (g.X.Elements.size l.x (dom l.cat h)))) (take l.h-index l.h-items)
