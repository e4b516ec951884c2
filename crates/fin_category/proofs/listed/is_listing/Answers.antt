use Rattle.std.proofs.Common.{sym, ◌∙◌}
use Rattle.fin_category.proofs.ListedNumbers.{within_if, if_within}
use Rattle.fin_category.proofs.listed.is_listing.Goals as goal

pub returns-clause-within : goal.returns-clause-within
returns-clause-within c = ((λ e. within_if c.args.raw.now (sym c.passes.ensures ∙ e)), (λ h. c.passes.ensures ∙ if_within c.args.raw.now h))
