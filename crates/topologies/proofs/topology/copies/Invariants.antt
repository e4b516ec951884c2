use Rattle.std.proofs.Common.{◌≡◌, take}
use Rattle.topologies.proofs.topology.copies.Given as goal

-- those before the next one
abbrev pub invariant-loop-family : goal.invariant-loop-family
invariant-loop-family l = l.row ≡ take l.family-index l.families
