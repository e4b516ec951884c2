use Rattle.std.proofs.Common.{◌≡◌, ◌++◌, drop}
use Rattle.element_values.specs.Places.{imaged}
use Rattle.element_values.proofs.places.imaged.Given as goal

-- what is left gives the whole
abbrev pub invariant-loop-i : goal.invariant-loop-i
invariant-loop-i l = l.images ++ imaged (drop l.i l.places) (drop l.i l.row) ≡ imaged l.places l.row
