use Rattle.std.proofs.Common.{◌≡◌, map, take}
use Rattle.topos_model.specs.categories.Category.{dom}
use Rattle.sealed_types.specs.Sealed.{sizes_in}
use Rattle.product_objects.proofs.pairs.widths_into.Given as goal

abbrev pub invariant-loop-f : goal.invariant-loop-f
invariant-loop-f l = l.widths ≡ map (λ f. sizes_in l.store l.id (dom l.cat f)) (take l.f-index l.f-items)
