use Rattle.topos_model.proofs.SameTypes.{decided}
use Rattle.topos_model.proofs.ty.TyPartialEq.eq.Goals as goal

pub returns : goal.returns
returns c = decided c.is.result c.args.self.now c.args.other.now c.is.ensures.equal
