use Rattle.std.proofs.Common.{◌≡◌, ◌++◌, codes, take}
use Rattle.std.specs.List.{flat_map}
use Rattle.topos_report.specs.Names.{object_name}
use Rattle.topos_report.specs.Values.{tuple_text}
use Rattle.topos_report.proofs.stages.push_tuples_line.Given as goal

abbrev pub invariant-loop-tuple : goal.invariant-loop-tuple
invariant-loop-tuple l =
    l.out.items ≡ l.fn.out.items ++ (object_name l.doc l.c ++ codes ":" ++ flat_map (λ t. codes " " ++ tuple_text l.doc l.types l.c t) (take l.tuple-index l.tuples))
