use Rattle.std.proofs.Common.{◌≡◌, ◌-◌, length}
use Rattle.std.specs.List.{range_with_len}
use Rattle.finite_lists.specs.First.{first}
use Rattle.presheaf_core.specs.Functoriality.{instance_from, failing_instance}
use Rattle.presheaf_core.proofs.functoriality.failing_instance.Given as goal

abbrev pub invariant-loop-g : goal.invariant-loop-g
invariant-loop-g l = failing_instance l.cat l.functor ≡ first (instance_from l.cat l.functor) (range_with_len l.g (length l.cat.ends - l.g))
