use Rattle.std.proofs.Common.{List, reverse, take}
use Rattle.topos_model.specs.declared.context.MapTy.{MapTy}
use Rattle.topos_model.specs.formulas.Forcing.{World}
use Rattle.internal_interp.specs.Known.{Knows, IsScope}
use Rattle.internal_interp.proofs.scopes.scope.Given as goal

-- the context of the first so many variables
abbrev pub invariant-loop-k : goal.invariant-loop-k
invariant-loop-k l = (w : World) (maps : List MapTy) → Knows w maps l.interpreter → IsScope w maps l.interpreter (reverse (take l.k l.types)) l.context
