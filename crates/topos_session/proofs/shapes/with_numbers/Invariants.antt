use Rattle.std.proofs.Common.{◌≡◌, map, get_or}
use Rattle.std.specs.List.{range_with_len}
use Rattle.topos_model.specs.declared.value.Val.{El, Star}
use Rattle.topos_session.proofs.shapes.with_numbers.Given as goal

abbrev pub invariant-loop-n : goal.invariant-loop-n
invariant-loop-n l = l.pairs ≡ map (λ n. (get_or l.values n Star, El n)) (range_with_len 0 l.n)
