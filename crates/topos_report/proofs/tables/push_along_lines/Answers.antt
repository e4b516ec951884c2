use Rattle.std.proofs.Common.{arith}
use Rattle.std.proofs.lemmas.Grind.{common_steps}
use Rattle.topos_report.specs.Names.{naming}
use Rattle.topos_report.specs.Tables.{along_line}
use Rattle.topos_report.proofs.ObjectLines.{flat_map-range-more}
use Rattle.topos_report.proofs.tables.push_along_lines.Goals as goal

pub loop-i-preserved : goal.loop-i-preserved
loop-i-preserved c = rw (flat_map-range-more (along_line (naming c.args.doc.now) c.args.along.now) c.loop-i.i) (grind (arith, common_steps))
