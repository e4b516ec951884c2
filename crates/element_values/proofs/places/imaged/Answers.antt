use Rattle.std.proofs.Common.{◌<◌, ◌++◌, ◌+◌, drop, length, sym, ap, ◌∙◌, arith}
use Rattle.element_values.specs.Places.{imaged}
use Rattle.element_values.proofs.Steps.{imaged_more, imaged_end}
use Rattle.element_values.proofs.places.imaged.Goals as goal

pub loop-i-preserved : goal.loop-i-preserved
loop-i-preserved c =
    let low' : c.loop-i.i < length c.args.row.now = omega (arith, c.requires, c.loop-i-test.true) in
    ap (λ l. l ++ imaged (drop (c.loop-i.i + 1) c.args.places.now) (drop (c.loop-i.i + 1) c.args.row.now)) c.in_ok-push.ensures.ok
    ∙ imaged_more c.args.places.now c.args.row.now c.loop-i.i c.loop-i-test.true low' c.loop-i.images ∙ c.loop-i.invariant

pub returns : goal.returns
returns c = sym (imaged_end c.loop-i.images c.args.places.now c.args.row.now c.loop-i.i (omega (arith, c.loop-i-test.false))) ∙ c.loop-i.invariant
