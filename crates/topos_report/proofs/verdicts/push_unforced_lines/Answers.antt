use Rattle.std.proofs.Common.{arith}
use Rattle.std.proofs.lemmas.Grind.{common_steps}
use Rattle.topos_report.specs.AnswerLines.{unforced_line}
use Rattle.topos_report.proofs.ObjectLines.{flat_map-range-more}
use Rattle.topos_report.proofs.verdicts.push_unforced_lines.Goals as goal

pub loop-c-preserved : goal.loop-c-preserved
loop-c-preserved c = rw (flat_map-range-more (unforced_line c.args.doc.now c.args.types.now c.args.stages.now) c.loop-c.c) (grind (arith, common_steps))
