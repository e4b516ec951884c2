use Rattle.std.proofs.Common.{ap, arith, Err}
use Rattle.topos_program.proofs.Reading.{whole_reports, beyond_reports}
use Rattle.topos_program.proofs.run.report_of.Goals as goal

pub returns-in_ok-answer-in-Ok-clause-reports : goal.returns-in_ok-answer-in-Ok-clause-reports
returns-in_ok-answer-in-Ok-clause-reports g c =
    let read = c.in-Ok.ensures in
    whole_reports _ _ c.in-Ok.text.items _ _ read.whole read.end (omega (arith, read.short, c.in-Ok.text.ok.0)) (rw c.deref.ensures.value at c.in_ok-answer-in-Ok.ensures.report)

pub returns-in_ok-too_long-in-Err-TooLong-clause-reports :
    goal.returns-in_ok-too_long-in-Err-TooLong-clause-reports
returns-in_ok-too_long-in-Err-TooLong-clause-reports g c =
    let read = c.in-Err-TooLong.ensures in
    beyond_reports _ _ read.taken.0 _ _ read.taken.1 (read.taken.3.0 (ap Err c.in-Err-TooLong.field-0-is)) c.in_ok-too_long-in-Err-TooLong.ensures.report
