use Rattle.std.proofs.Common.{sym, arith}
use Rattle.std.proofs.lemmas.Grind.{common_steps}
use Rattle.topos_report.specs.AnswerLines.{listed_map_lines}
use Rattle.topos_report.proofs.ObjectLines.{flat_map-range-more}
use Rattle.topos_report.proofs.Entries.{placed_lines}
use Rattle.topos_report.proofs.tables.push_placed_maps.Goals as goal

pub loop-i-preserved : goal.loop-i-preserved
loop-i-preserved c =
    rw (flat_map-range-more (listed_map_lines c.args.doc.now c.args.maps.now) c.loop-i.i, placed_lines c.args.doc.now c.args.maps.now c.loop-i.i c.index-maps-i.result (omega arith) (sym c.index-maps-i.is))
    (grind (arith, common_steps))
