use Rattle.std.proofs.Common.{get_or}
use Rattle.topos_model.specs.declared.ty.Ty.{One}
use Rattle.topos_model.specs.declared.term.Term.{Var}
use Rattle.internal_interp.proofs.FormFacts.{retyped}
use Rattle.internal_interp.proofs.constants.variable_term.Goals as goal

pub returns : goal.returns
returns c = λ w maps Γ U k. retyped w maps c.args.interpreter.now Γ c.args.context.now U (get_or Γ c.args.place One) (Var c.args.place) c.in_ok-variable.field-0 k.typing (c.in_ok-variable.ensures w maps Γ k.scope)
