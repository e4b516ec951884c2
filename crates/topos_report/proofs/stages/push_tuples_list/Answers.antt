use Rattle.std.proofs.Common.{arith}
use Rattle.std.proofs.lemmas.Grind.{common_steps}
use Rattle.topos_report.proofs.ObjectLines.{tuples_list-more}
use Rattle.topos_report.proofs.stages.push_tuples_list.Goals as goal

pub loop-c-preserved : goal.loop-c-preserved
loop-c-preserved c =
    rw (tuples_list-more c.args.doc.now c.args.types.now c.args.stages.now c.loop-c.c) (grind (arith, common_steps))
