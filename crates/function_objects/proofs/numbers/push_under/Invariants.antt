use Rattle.std.proofs.Common.{◌≡◌, ◌+◌, ◌++◌, flat_map, map, get_or, take}
use Rattle.std.specs.List.{range_with_len}
use Rattle.topos_model.specs.categories.Category.{dom, compose}
use Rattle.place_closures.specs.Pairs.{start}
use Rattle.sealed_types.specs.Sealed.{sizes_in, restrictions_in}
use Rattle.function_objects.proofs.numbers.push_under.Given as goal

abbrev pub invariant-loop-f : goal.invariant-loop-f
invariant-loop-f l =
    l.out ≡ l.fn.out ++ flat_map (λ f. map (λ w. get_or l.row (start l.cat (sizes_in l.store l.s) (restrictions_in l.store l.s) l.c (compose l.cat l.h f) + w) 0) (range_with_len 0 (sizes_in l.store l.s (dom l.cat f)))) (take l.f-index l.f-items)
