use Rattle.std.proofs.Common.{sym, subst, rules}
use Rattle.topos_program.specs.Status.{IsReported}
use Rattle.topos_program.proofs.Ending.{status_reported}
use Rattle.topos_program.proofs.report.document_report.Goals as goal

pub returns-clause-status : goal.returns-clause-status
returns-clause-status c = subst IsReported (sym c.of.ensures) (search (rules, status_reported))
