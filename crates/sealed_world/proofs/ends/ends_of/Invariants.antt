use Rattle.std.proofs.Common.{◌≡◌, take}
use Rattle.sealed_world.proofs.ends.ends_of.Given as goal

abbrev pub invariant-loop-f : goal.invariant-loop-f
invariant-loop-f l = l.ends ≡ take l.f l.cat.ends
