use Rattle.fin_category.proofs.MaskWords.{members-zeros}
use Rattle.fin_category.proofs.mask.ArrowMask.empty.Goals as goal

pub returns : goal.returns
returns c = members-zeros
