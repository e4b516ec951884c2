use Rattle.std.proofs.Common.{◌≡◌, flat_map, replicate, take}
use Rattle.topos_model.specs.categories.Category.{dom}
use Rattle.sealed_types.specs.Sealed.{sizes_in}
use Rattle.function_objects.proofs.squares.function_bounds.Given as goal

abbrev pub invariant-loop-f : goal.invariant-loop-f
invariant-loop-f l = l.bounds ≡ flat_map (λ f. replicate (sizes_in l.store l.s (dom l.cat f)) (sizes_in l.store l.t (dom l.cat f))) (take l.f-index l.f-items)
