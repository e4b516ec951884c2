use Rattle.std.proofs.Common.{sym}
use Rattle.topos_report.proofs.ValueParts.{assigns_of-other}
use Rattle.topos_report.proofs.parts.assigns.Goals as goal

pub returns-in_default : goal.returns-in_default
returns-in_default c = sym (assigns_of-other c.args.v.now c.in_default.not-Fn)
