use Rattle.std.proofs.Common.{◌≡◌, ◌-◌}
use Rattle.std.specs.List.{range_with_len}
use Rattle.finite_lists.specs.First.{first}
use Rattle.topos_model.specs.topologies.LeastCovers.{least}
use Rattle.topos_model.specs.topologies.Sheaves.{sheaf_fault}
use Rattle.sheaf_test.specs.Amalgamations.{fault_on}
use Rattle.sheaf_test.proofs.verdict.test.Given as goal

-- what is left gives the first of all
abbrev pub invariant-loop-c : goal.invariant-loop-c
invariant-loop-c l = sheaf_fault l.site l.x ≡ first (λ c. fault_on l.site.category l.x c (least l.site c)) (range_with_len l.c (l.site.category.objects - l.c))
