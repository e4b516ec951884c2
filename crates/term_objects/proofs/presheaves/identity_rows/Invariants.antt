use Rattle.std.proofs.Common.{◌≡◌, map, take}
use Rattle.std.specs.List.{range_with_len}
use Rattle.term_objects.proofs.presheaves.identity_rows.Given as goal

abbrev pub invariant-loop-size : goal.invariant-loop-size
invariant-loop-size l = l.rows ≡ map (λ n. range_with_len 0 n) (take l.size-index l.sizes)
