use Rattle.std.proofs.Common.{◌≡◌, ◌++◌, take}
use Rattle.topos_report.specs.Lists.{comma_separated}
use Rattle.topos_report.specs.Names.{arrow_name}
use Rattle.topos_report.proofs.values.push_arrows.Given as goal

abbrev pub invariant-loop-i : goal.invariant-loop-i
invariant-loop-i l = l.out.items ≡ l.fn.out.items ++ comma_separated (arrow_name l.doc) (take l.i l.arrows)
