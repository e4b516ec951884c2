use Rattle.std.proofs.Common.{◌≡◌, ◌++◌, codes, take}
use Rattle.std.specs.List.{zip}
use Rattle.topos_report.specs.Lists.{comma_separated}
use Rattle.topos_report.specs.Values.{typed_text}
use Rattle.topos_report.proofs.values.push_tuple.Given as goal

abbrev pub invariant-loop-i : goal.invariant-loop-i
invariant-loop-i l = l.out.items ≡ l.fn.out.items ++ (codes "(" ++ comma_separated (typed_text l.doc l.c) (take l.i (zip l.types l.vals)))
