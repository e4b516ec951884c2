use Rattle.std.proofs.Common.{sym}
use Rattle.topos_report.proofs.ValueParts.{number_of-other}
use Rattle.topos_report.proofs.parts.number.Goals as goal

pub returns-in_default : goal.returns-in_default
returns-in_default c = sym (number_of-other c.args.v.now c.in_default.not-El)
