use Rattle.std.proofs.Common.{◌≡◌, drop}
use Rattle.finite_lists.specs.First.{first}
use Rattle.presheaf_core.specs.Filling.{pair_at, pair_from}
use Rattle.presheaf_core.proofs.filling.pair_from.Given as goal

abbrev pub invariant-loop-h : goal.invariant-loop-h
invariant-loop-h l = pair_from l.cat l.f l.g ≡ first (pair_at l.cat l.f l.g) (drop l.h-index l.h-items)
