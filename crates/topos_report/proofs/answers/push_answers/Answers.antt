use Rattle.std.proofs.Common.{List, ◌++◌, ◌+◌, sym, ap, ◌∙◌, append-nil, arith}
use Rattle.topos_model.specs.declared.stmt.Stmt.{Stmt}
use Rattle.topos_report.specs.Report.{lines_from}
use Rattle.topos_report.proofs.AnswerLists.{none_left}
use Rattle.topos_report.proofs.answers.push_answers.Goals as goal

pub returns : goal.returns
returns c =
    let doc = c.args.doc.now in
    sym (append-nil c.loop-i.out.items)
    ∙ ap (λ l. c.loop-i.out.items ++ l) (sym (none_left doc (doc.site_len + 1 + c.loop-i.i) c.as_slice-stmts.result.now c.args.answers.now c.loop-i.i (omega arith)))
    ∙ c.loop-i.invariant
    ∙ ap (λ (stmts : List Stmt). c.args.out.now.items ++ lines_from doc (doc.site_len + 1) stmts c.args.answers.now) c.as_slice-stmts.ensures
