use Rattle.std.proofs.Common.{◌≡◌, ◌+◌, drop}
use Rattle.std.specs.List.{sum_by}
use Rattle.row_arena.specs.Arena.{place_length}
use Rattle.row_arena.proofs.arena.total.Given as goal

abbrev pub invariant-loop-place : goal.invariant-loop-place
invariant-loop-place l = l.cells + sum_by place_length (drop l.place-index l.places) ≡ sum_by place_length l.fn.places
