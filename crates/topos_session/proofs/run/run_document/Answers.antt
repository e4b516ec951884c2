use Rattle.std.proofs.Common.{sym, ap, subst, ◌∙◌}
use Rattle.std.proofs.lemmas.Bool.{leb-true}
use Rattle.topos_session.specs.Progress.{Progress}
use Rattle.topos_session.specs.Steps.{IsStop}
use Rattle.topos_session.proofs.RunSteps.{none_answered, one_answered, all_answered, refused_next, over_next}
use Rattle.topos_session.proofs.run.run_document.Goals as goal

pub loop-session-init : goal.loop-session-init
loop-session-init c = rw c.new-answers.ensures (none_answered c.args.doc c.args.budget c.in-Ok.session c.in-Ok.ensures.opened)

pub loop-session-preserved : goal.loop-session-preserved
loop-session-preserved c =
    let l = c.loop-session in
    rw c.in_ok-push-in-Ok-step.ensures.ok (one_answered c.args.doc c.args.budget l.answers l.session c.step.new.self c.in-Ok-step.answer l.invariant c.in-Ok-step.ensures.answer)

pub returns-in-Err-Refused-step-clause-runs : goal.returns-in-Err-Refused-step-clause-runs
returns-in-Err-Refused-step-clause-runs c =
    let l = c.loop-session in
    let e = c.in-Err-Refused-step in
    refused_next c.args.doc c.into_doc-doc.result c.args.budget l.answers l.session c.next-number.result _ l.invariant (subst (IsStop l.session) e.field-0-is e.ensures.stop) c.next-number.ensures
    (c.into_doc-doc.ensures ∙ ap (λ (p : Progress). p.doc) e.ensures.ended)

pub returns-clause-runs : goal.returns-clause-runs
returns-clause-runs c =
    let l = c.loop-session in
    all_answered c.args.doc c.into_doc-2.result c.args.budget l.answers l.session c.cells-cells.result l.invariant (leb-true _ _ (sym c.is_done.ensures ∙ c.loop-session-test.false)) c.into_doc-2.ensures c.cells-cells.ensures

pub returns-in-Err-Budget-clause-runs : goal.returns-in-Err-Budget-clause-runs
returns-in-Err-Budget-clause-runs c =
    let l = c.loop-session in
    let e = c.in-Err-Budget in
    over_next c.args.doc c.into_doc.result c.args.budget l.answers l.session c.next-number.result l.invariant (subst (IsStop l.session) e.field-0-is e.ensures.stop) c.next-number.ensures
    (c.into_doc.ensures ∙ ap (λ (p : Progress). p.doc) e.ensures.ended)
