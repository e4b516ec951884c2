use Rattle.std.proofs.Common.{◌≡◌, map, get_or}
use Rattle.std.specs.List.{range_with_len}
use Rattle.topos_model.specs.declared.value.Val.{El}
use Rattle.topos_session.proofs.shapes.pairs.Given as goal

abbrev pub invariant-loop-x : goal.invariant-loop-x
invariant-loop-x l = l.pairs ≡ map (λ x. (El x, El (get_or l.images x 0))) (range_with_len 0 l.x)
