use Rattle.std.proofs.Common.{◌≡◌, ◌-◌}
use Rattle.std.specs.List.{range_with_len}
use Rattle.finite_lists.specs.First.{first}
use Rattle.topos_model.specs.categories.Category.{cod}
use Rattle.topos_model.specs.Laws.{size}
use Rattle.presheaf_core.specs.Functoriality.{instance_at, instance_from_pair}
use Rattle.presheaf_core.proofs.functoriality.instance_from_pair.Given as goal

abbrev pub invariant-loop-x : goal.invariant-loop-x
invariant-loop-x l =
    instance_from_pair l.cat l.functor l.g l.f ≡ first (instance_at l.cat l.functor l.g l.f) (range_with_len l.x (size l.functor (cod l.cat l.g) - l.x))
