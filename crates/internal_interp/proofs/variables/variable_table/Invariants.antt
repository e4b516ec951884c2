use Rattle.std.proofs.Common.{◌-◌, List, drop, get_or}
use Rattle.topos_model.specs.declared.ty.Ty.{Ty, One}
use Rattle.topos_model.specs.formulas.Forcing.{World}
use Rattle.truth_tables.specs.Standing.{IsNumberTable}
use Rattle.internal_interp.specs.Contexts.{HasSizes}
use Rattle.internal_interp.proofs.TupleVariables.{variable_at}
use Rattle.internal_interp.proofs.variables.variable_table.Given as goal

-- the variable is that of so many places within
abbrev pub invariant-loop-within : goal.invariant-loop-within
invariant-loop-within l = (w : World) (Γ : List Ty) → HasSizes w Γ l.context → IsNumberTable w (drop (l.k - l.within) Γ) (get_or Γ l.k One) (variable_at w l.within) l.numbers
