use Rattle.std.proofs.Common.{◌<◌, ◌++◌, ◌+◌, drop, length, sym, ap, ◌∙◌, arith}
use Rattle.std.proofs.lemmas.Bool.{ne_eqb}
use Rattle.element_values.specs.Places.{marked}
use Rattle.element_values.proofs.Steps.{marked_on, marked_off, marked_end}
use Rattle.element_values.proofs.places.marked.Goals as goal
use Rattle.element_values.proofs.places.marked.Goals.{then-is_member+in_ok-push, else-is_member}

pub loop-i-preserved : goal.loop-i-preserved
loop-i-preserved c =
    let low' : c.loop-i.i < length c.args.row.now = omega (arith, c.requires, c.loop-i-test.true) in
    let rest = marked (drop (c.loop-i.i + 1) c.args.places.now) (drop (c.loop-i.i + 1) c.args.row.now) in
    elim c.if-is_member.branch [
      | then-is_member+in_ok-push w ↦
          ap (λ l. l ++ rest) (w.kept-is ∙ w.in_ok-push.ensures.ok) ∙ marked_on c.args.places.now c.args.row.now c.loop-i.i c.loop-i-test.true low' c.loop-i.kept w.if-is_member.true ∙ c.loop-i.invariant
      | else-is_member w ↦
          ap (λ l. l ++ rest) w.kept-is ∙ marked_off c.args.places.now c.args.row.now c.loop-i.i c.loop-i-test.true low' c.loop-i.kept (ne_eqb _ _ w.if-is_member.false) ∙ c.loop-i.invariant
    ]

pub returns : goal.returns
returns c = sym (marked_end c.loop-i.kept c.args.places.now c.args.row.now c.loop-i.i (omega (arith, c.loop-i-test.false))) ∙ c.loop-i.invariant
