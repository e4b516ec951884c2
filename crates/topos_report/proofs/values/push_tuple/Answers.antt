use Rattle.std.proofs.Common.{◌≡◌, arith}
use Rattle.std.proofs.lemmas.Grind.{common_steps}
use Rattle.topos_report.specs.Values.{tuple_text}
use Rattle.topos_report.proofs.ZippedLists.{take-zip}
use Rattle.topos_report.proofs.TypedValues.{typed_text-more}
use Rattle.topos_report.proofs.values.push_tuple.Goals as goal

pub loop-i-preserved : goal.loop-i-preserved
loop-i-preserved c =
    let more = typed_text-more c.args.doc.now c.args.types.now c.as_slice-vals.result.now c.args.c c.loop-i.i in
    grind (arith, common_steps, more)

pub returns : goal.returns
unfolding tuple_text
returns c =
    let e : c.loop-i.i ≡ c.min-i-end.result = omega arith in
    let whole = take-zip c.args.types.now c.as_slice-vals.result.now in
    grind (arith, common_steps, whole, e)
