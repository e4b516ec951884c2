use Rattle.std.proofs.Common.{sym, ◌∙◌}
use Rattle.topologies.proofs.FamilyTests.{listed_if, if_listed}
use Rattle.topologies.proofs.families.are_families.Goals as goal

pub returns-clause-listed : goal.returns-clause-listed
returns-clause-listed c = (
  (λ e. listed_if c.args.cat.now c.args.families.now (sym c.all_families.ensures ∙ e)),
  (λ h. c.all_families.ensures ∙ if_listed c.args.cat.now c.args.families.now h),
)
