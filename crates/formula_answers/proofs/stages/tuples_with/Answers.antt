use Rattle.std.proofs.Common.{map, reverse, ap, ◌∙◌, arith}
use Rattle.topos_model.specs.formulas.Forcing.{tuples}
use Rattle.topos_model.specs.statements.Answers.{tuple_of}
use Rattle.truth_tables.specs.Tables.{row}
use Rattle.truth_tables.proofs.Rows.{row-more}
use Rattle.formula_answers.specs.Stages.{kept}
use Rattle.formula_answers.proofs.ReadTuples.{objects_counted}
use Rattle.formula_answers.proofs.stages.tuples_with.Goals as goal

pub loop-c-preserved : goal.loop-c-preserved
loop-c-preserved c = λ w φ h.
    row-more _ c.loop-c.c c.loop-c.stages c.push.new.self c.in_ok-tuples_at.field-0 (c.loop-c.invariant w φ h) c.in_ok-push.ensures.ok (c.in_ok-tuples_at.ensures w φ h)

pub returns : goal.returns
returns c = λ w φ h.
    let all = objects_counted c.args.elements.now w (reverse c.args.types.now) c.args.sizes.now h.tuples in
    c.loop-c.invariant w φ h ∙ ap (λ n. row n (λ c'. map tuple_of (kept c.args.wanted (φ c') (tuples w (reverse c.args.types.now) c')))) (omega (arith, all, c.loop-c-test.false, c.loop-c.auto.c-end))
