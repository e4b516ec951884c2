use Rattle.std.proofs.Common.{◌≡◌, map}
use Rattle.std.specs.List.{range_with_len}
use Rattle.topos_model.specs.categories.Category.{cod}
use Rattle.sealed_types.specs.Sealed.{sizes_in, restrictions_in}
use Rattle.function_objects.proofs.squares.restriction_table.Given as goal

abbrev pub invariant-loop-f : goal.invariant-loop-f
invariant-loop-f l = l.table ≡ map (λ f. map (restrictions_in l.store l.t f) (range_with_len 0 (sizes_in l.store l.t (cod l.cat f)))) (range_with_len 0 l.f)
