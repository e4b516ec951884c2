use Rattle.std.proofs.Common.{arith}
use Rattle.std.proofs.lemmas.Grind.{common_steps}
use Rattle.topos_report.specs.Names.{naming}
use Rattle.topos_report.specs.Tables.{numbers_line}
use Rattle.topos_report.proofs.ObjectLines.{flat_map-range-more}
use Rattle.topos_report.proofs.tables.push_numbers_lines.Goals as goal

pub loop-c-preserved : goal.loop-c-preserved
loop-c-preserved c = rw (flat_map-range-more (numbers_line (naming c.args.doc.now) c.args.sizes.now) c.loop-c.c) (grind (arith, common_steps))
