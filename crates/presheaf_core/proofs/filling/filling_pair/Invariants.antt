use Rattle.std.proofs.Common.{◌≡◌, ◌-◌, length}
use Rattle.std.specs.List.{range_with_len}
use Rattle.finite_lists.specs.First.{first}
use Rattle.topos_model.specs.categories.Filling.{filling_pair}
use Rattle.presheaf_core.specs.Filling.{pair_from}
use Rattle.presheaf_core.proofs.filling.filling_pair.Given as goal

abbrev pub invariant-loop-g : goal.invariant-loop-g
invariant-loop-g l = filling_pair l.cat l.f ≡ first (pair_from l.cat l.f) (range_with_len l.g (length l.cat.ends - l.g))
