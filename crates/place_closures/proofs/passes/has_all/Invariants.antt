use Rattle.std.proofs.Common.{◌≡◌, false, drop, get_or}
use Rattle.std.specs.List.{list_all}
use Rattle.place_closures.proofs.passes.has_all.Given as goal

-- what is left gives the whole
abbrev pub invariant-loop-j : goal.invariant-loop-j
invariant-loop-j l = list_all (λ j. get_or l.set j false) (drop l.j-index l.row) ≡ list_all (λ j. get_or l.set j false) l.row
