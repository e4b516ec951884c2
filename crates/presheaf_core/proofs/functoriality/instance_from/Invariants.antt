use Rattle.std.proofs.Common.{◌≡◌, drop}
use Rattle.finite_lists.specs.First.{first}
use Rattle.presheaf_core.specs.Functoriality.{instance_from_pair, instance_from}
use Rattle.presheaf_core.proofs.functoriality.instance_from.Given as goal

abbrev pub invariant-loop-f : goal.invariant-loop-f
invariant-loop-f l = instance_from l.cat l.functor l.g ≡ first (instance_from_pair l.cat l.functor l.g) (drop l.f-index l.f-items)
