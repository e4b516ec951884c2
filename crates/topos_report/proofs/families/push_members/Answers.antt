use Rattle.std.proofs.Common.{arith}
use Rattle.std.proofs.lemmas.Grind.{common_steps}
use Rattle.topos_report.specs.AnswerLines.{member_text}
use Rattle.topos_report.proofs.ZippedLists.{zipped-more, take-zip}
use Rattle.topos_report.proofs.families.push_members.Goals as goal

pub loop-i-preserved : goal.loop-i-preserved
loop-i-preserved c =
    let more = zipped-more (member_text c.args.doc.now c.args.functor) c.args.cover.now c.args.family.now c.loop-i.i in
    grind (arith, common_steps, more)

pub returns : goal.returns
returns c =
    let whole = take-zip c.args.cover.now c.args.family.now in
    grind (arith, common_steps, whole)
