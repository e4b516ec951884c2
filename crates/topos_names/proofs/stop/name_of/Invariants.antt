use Rattle.std.proofs.Common.{◌≡◌, take}
use Rattle.topos_names.proofs.stop.name_of.Given as goal

abbrev pub invariant-loop-byte : goal.invariant-loop-byte
invariant-loop-byte l = l.name ≡ take l.byte-index l.text
