use Rattle.std.proofs.Common.{sym, ◌∙◌}
use Rattle.topos_report.proofs.ValueParts.{second_of-other}
use Rattle.topos_report.proofs.parts.second.Goals as goal

pub returns-in_default : goal.returns-in_default
returns-in_default c = c.requires ∙ sym (second_of-other c.args.v.now (c.in_default.not-Two))
