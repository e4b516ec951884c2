use Rattle.std.proofs.Common.{◌-◌, length}
use Rattle.topos_session.proofs.RunSteps.{HasAnswered}
use Rattle.topos_session.proofs.run.run_document.Given as goal

abbrev pub invariant-loop-session : goal.invariant-loop-session
invariant-loop-session l = HasAnswered l.fn.doc l.fn.budget l.answers l.session

abbrev pub decreases-loop-session : goal.decreases-loop-session
decreases-loop-session l = length l.session.doc.stmts - l.session.answered
