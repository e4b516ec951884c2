use Rattle.std.proofs.Common.{ap, ◌∙◌}
use Rattle.fin_category.specs.Masks.{added}
use Rattle.fin_category.proofs.ArrowLists.{added-none}
use Rattle.fin_category.proofs.mask.ArrowMask.one.Goals as goal

pub returns : goal.returns
returns c = c.insert.ensures ∙ ap (added c.args.f) c.empty-mask.ensures ∙ added-none c.args.f c.requires
