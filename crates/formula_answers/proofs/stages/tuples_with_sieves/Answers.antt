use Rattle.std.proofs.Common.{reverse, ap, ◌∙◌, arith}
use Rattle.topos_model.specs.formulas.Forcing.{tuples}
use Rattle.truth_tables.specs.Tables.{row}
use Rattle.truth_tables.proofs.Rows.{row-more}
use Rattle.formula_answers.specs.Stages.{with_arrows}
use Rattle.formula_answers.proofs.ReadTuples.{objects_counted}
use Rattle.formula_answers.proofs.stages.tuples_with_sieves.Goals as goal

pub loop-c-preserved : goal.loop-c-preserved
loop-c-preserved c = λ w v h.
    row-more _ c.loop-c.c c.loop-c.stages c.push.new.self c.in_ok-sieves_at.field-0 (c.loop-c.invariant w v h) c.in_ok-push.ensures.ok (c.in_ok-sieves_at.ensures w v h)

pub returns : goal.returns
returns c = λ w v h.
    let all = objects_counted c.args.elements.now w (reverse c.args.types.now) c.args.sizes.now h.tuples in
    c.loop-c.invariant w v h ∙ ap (λ n. row n (λ c'. with_arrows (v c') (tuples w (reverse c.args.types.now) c'))) (omega (arith, all, c.loop-c-test.false, c.loop-c.auto.c-end))
