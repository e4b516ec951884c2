use Rattle.std.proofs.Common.{◌≡◌, ◌++◌, map, take}
use Rattle.topos_model.specs.categories.Category.{dom}
use Rattle.power_objects.specs.BitOrder.{place_in, read_along}
use Rattle.power_objects.specs.SubsetRows.{under, closed_sets}
use Rattle.power_objects.proofs.subsets.push_restrictions.Given as goal

abbrev pub invariant-loop-i : goal.invariant-loop-i
invariant-loop-i g l =
    l.out ≡ l.fn.out ++ map (λ f. place_in (closed_sets l.site (g.X.Elements.size l.x) (g.X.Elements.restriction l.x) (dom l.site.category f)) (read_along (under l.site.category (g.X.Elements.size l.x) (g.X.Elements.restriction l.x) l.c f) l.set)) (take l.i l.arrows)
