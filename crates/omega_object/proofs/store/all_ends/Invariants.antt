use Rattle.std.proofs.Common.{◌≡◌, take}
use Rattle.omega_object.proofs.store.all_ends.Given as goal

abbrev pub invariant-loop-f : goal.invariant-loop-f
invariant-loop-f l = l.row ≡ take l.f l.cat.ends
