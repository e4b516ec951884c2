use Rattle.std.proofs.Common.{◌≡◌, ◌++◌, map, drop, flat_map}
use Rattle.std.specs.List.{zip}
use Rattle.topos_report.specs.Names.{map_name}
use Rattle.topos_report.specs.Statements.{made_maps}
use Rattle.topos_report.specs.Tables.{map_lines}
use Rattle.topos_report.proofs.tables.push_made_maps.Given as goal

abbrev pub invariant-loop-i : goal.invariant-loop-i
invariant-loop-i l =
    (l.out.items ++ flat_map (map_lines l.doc) (zip (map (map_name l.doc) (drop l.i (made_maps l.stmt))) (drop l.i l.maps)))
    ≡ (l.fn.out.items ++ flat_map (map_lines l.doc) (zip (map (map_name l.doc) (made_maps l.stmt)) l.maps))
