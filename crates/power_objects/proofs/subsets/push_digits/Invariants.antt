use Rattle.std.proofs.Common.{◌≡◌, ◌++◌, map, take}
use Rattle.power_objects.specs.SubsetRows.{digit}
use Rattle.power_objects.proofs.subsets.push_digits.Given as goal

abbrev pub invariant-loop-i : goal.invariant-loop-i
invariant-loop-i l = l.out ≡ l.fn.out ++ map digit (take l.i l.set)
