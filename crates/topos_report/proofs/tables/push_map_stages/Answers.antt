use Rattle.std.proofs.Common.{arith}
use Rattle.std.proofs.lemmas.Grind.{common_steps}
use Rattle.topos_report.specs.Tables.{map_line}
use Rattle.topos_report.proofs.ObjectLines.{flat_map-range-more}
use Rattle.topos_report.proofs.tables.push_map_stages.Goals as goal

pub loop-c-preserved : goal.loop-c-preserved
loop-c-preserved c = rw (flat_map-range-more (map_line c.args.doc.now c.args.map.now) c.loop-c.c) (grind (arith, common_steps))
