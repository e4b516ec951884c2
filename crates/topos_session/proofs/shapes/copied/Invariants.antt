use Rattle.std.proofs.Common.{◌≡◌, take}
use Rattle.topos_session.proofs.shapes.copied.Given as goal

abbrev pub invariant-loop-number : goal.invariant-loop-number
invariant-loop-number l = l.row ≡ take l.number-index l.numbers
