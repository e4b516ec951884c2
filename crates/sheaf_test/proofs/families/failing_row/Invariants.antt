use Rattle.std.proofs.Common.{◌≡◌, ◌+◌, drop, take}
use Rattle.finite_lists.specs.First.{first}
use Rattle.topos_model.specs.Laws.{size}
use Rattle.topos_model.specs.topologies.Sheaves.{matching_families}
use Rattle.sheaf_test.specs.Amalgamations.{fault_of}
use Rattle.sheaf_test.proofs.families.failing_row.Given as goal

-- what is left gives the first of all
abbrev pub invariant-loop-i : goal.invariant-loop-i
invariant-loop-i l =
    first (fault_of l.x l.c l.arrows) (drop l.i (take (size l.x l.c + 1) (matching_families l.cat l.x l.arrows)))
    ≡ first (fault_of l.x l.c l.arrows) (take (size l.x l.c + 1) (matching_families l.cat l.x l.arrows))
