use Rattle.std.proofs.Common.{refl}
use Rattle.internal_interp.proofs.SealedContexts.{scope_none}
use Rattle.internal_interp.proofs.scopes.no_variables.Goals as goal

pub returns : goal.returns
returns c = λ w maps knows.
    scope_none w maps c.args.interpreter.now knows _ c.in_ok-tuples.tuples c.new.ensures refl c.place_of-place.ensures.place (c.in_ok-tuples.ensures w maps knows) c.in_ok-single.ensures c.new-2.ensures
