use Rattle.std.proofs.Common.{◌≡◌, ◌++◌, ◌+◌, drop}
use Rattle.topos_report.specs.Report.{lines_from}
use Rattle.topos_report.proofs.answers.push_answers.Given as goal

abbrev pub invariant-loop-i : goal.invariant-loop-i
invariant-loop-i l =
    (l.out.items ++ lines_from l.doc (l.doc.site_len + 1 + l.i) (drop l.i l.stmts) (drop l.i l.answers))
    ≡ (l.fn.out.items ++ lines_from l.doc (l.doc.site_len + 1) l.stmts l.answers)
