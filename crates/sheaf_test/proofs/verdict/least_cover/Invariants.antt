use Rattle.std.proofs.Common.{◌≡◌, ◌++◌}
use Rattle.topos_model.specs.topologies.LeastCovers.{least}
use Rattle.fin_category.specs.ArrowSets.{left_in}
use Rattle.topologies.specs.Topologies.{site_of}
use Rattle.sheaf_test.proofs.verdict.least_cover.Given as goal

-- what is left gives the whole
abbrev pub invariant-loop-f : goal.invariant-loop-f
invariant-loop-f l =
    (goal.iterator-loop-f).can_next l.f-iterator × (goal.iterator-loop-f).is_finite l.f-iterator
    × (l.row ++ left_in l.f-iterator ≡ least (site_of l.cat l.top) l.c)
