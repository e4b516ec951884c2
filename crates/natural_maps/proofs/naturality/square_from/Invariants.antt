use Rattle.std.proofs.Common.{◌≡◌, ◌-◌}
use Rattle.std.specs.List.{range_with_len}
use Rattle.finite_lists.specs.First.{first}
use Rattle.topos_model.specs.categories.Category.{cod}
use Rattle.topos_model.specs.Laws.{size}
use Rattle.natural_maps.specs.Components.{square_at, square_from}
use Rattle.natural_maps.proofs.naturality.square_from.Given as goal

abbrev pub invariant-loop-x : goal.invariant-loop-x
invariant-loop-x l =
    square_from l.cat l.p l.q l.rows l.f ≡ first (square_at l.cat l.p l.q l.rows l.f) (range_with_len l.x (size l.p (cod l.cat l.f) - l.x))
