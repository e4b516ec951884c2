use Rattle.fin_category.proofs.MaskWords.{contains-members}
use Rattle.fin_category.proofs.mask.ArrowMask.contains.Goals as goal

pub returns : goal.returns
returns c = contains-members c.args.self.words c.args.f c.requires
