use Rattle.std.proofs.Common.{eqb, ap, ◌∙◌, arith}
use Rattle.presheaf_core.proofs.FillingPairs.{fills_not-declared, fills_not-before, fills_composite}
use Rattle.presheaf_core.proofs.filling.fills.Goals as goal

pub returns-then-h-objects : goal.returns-then-h-objects
returns-then-h-objects c = fills_not-declared c.args.cat.now c.args.f c.args.g c.args.h (omega (arith, c.objects.ensures.count))

pub returns-then-h-f : goal.returns-then-h-f
returns-then-h-f c = fills_not-before c.args.cat.now c.args.f c.args.g c.args.h c.if-h-f.true

pub returns : goal.returns
returns c =
    ap (λ n. eqb n c.args.f) c.compose.ensures.value
    ∙ fills_composite c.args.cat.now c.args.f c.args.g c.args.h c.requires.declared c.requires.before (omega (arith, c.objects.ensures.count)) c.if-h-f.false
