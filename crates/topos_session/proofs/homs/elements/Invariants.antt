use Rattle.std.proofs.Common.{◌≡◌, ◌*◌, ◌≤◌, ◌^◌, sum, take}
use Rattle.topos_session.proofs.homs.elements.Given as goal

abbrev pub invariant-loop-size : goal.invariant-loop-size
invariant-loop-size l = record {
  sum : l.elements ≡ sum (take l.size-index l.sizes);
  few : l.elements ≤ l.size-index * 2 ^ 32;
}
