use Rattle.std.proofs.Common.{sym, ◌∙◌}
use Rattle.topos_report.proofs.ValueParts.{first_of-other}
use Rattle.topos_report.proofs.parts.first.Goals as goal

pub returns-in_default : goal.returns-in_default
returns-in_default c = c.requires ∙ sym (first_of-other c.args.v.now (c.in_default.not-Two))
