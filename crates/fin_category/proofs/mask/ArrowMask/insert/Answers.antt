use Rattle.std.proofs.Common.{arith}
use Rattle.fin_category.proofs.MaskWords.{members-added}
use Rattle.fin_category.proofs.mask.ArrowMask.insert.Goals as goal

pub returns : goal.returns
returns c = members-added c.args.self.now.words c.args.f (omega arith) c.requires
