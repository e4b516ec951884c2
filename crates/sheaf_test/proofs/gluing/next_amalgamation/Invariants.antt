use Rattle.std.proofs.Common.{◌≡◌}
use Rattle.sheaf_test.specs.Amalgamations.{amalgamations_from}
use Rattle.sheaf_test.proofs.gluing.next_amalgamation.Given as goal

-- none among those that are passed
abbrev pub invariant-loop-y : goal.invariant-loop-y
invariant-loop-y l = amalgamations_from l.x l.c l.arrows l.family l.start ≡ amalgamations_from l.x l.c l.arrows l.family l.y
