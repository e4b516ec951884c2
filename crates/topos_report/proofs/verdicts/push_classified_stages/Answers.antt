use Rattle.std.proofs.Common.{arith}
use Rattle.std.proofs.lemmas.Grind.{common_steps}
use Rattle.topos_report.proofs.ObjectLines.{classified-more}
use Rattle.topos_report.proofs.verdicts.push_classified_stages.Goals as goal

pub loop-c-preserved : goal.loop-c-preserved
loop-c-preserved c = rw (classified-more c.args.doc.now c.args.types.now c.args.stages.now c.loop-c.c) (grind (arith, common_steps))
