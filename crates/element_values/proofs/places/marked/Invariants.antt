use Rattle.std.proofs.Common.{◌≡◌, ◌++◌, drop}
use Rattle.element_values.specs.Places.{marked}
use Rattle.element_values.proofs.places.marked.Given as goal

-- what is left gives the whole
abbrev pub invariant-loop-i : goal.invariant-loop-i
invariant-loop-i l = l.kept ++ marked (drop l.i l.places) (drop l.i l.row) ≡ marked l.places l.row
