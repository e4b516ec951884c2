-- What a map is applied to.
use Rattle.std.specs.Prelude.{ℕ, List}
use Rattle.topos_model.specs.declared.ty.Ty.{Ty}
use Rattle.topos_model.specs.declared.term.Term.{Term}
use Rattle.topos_model.specs.declared.context.MapTy.{MapTy}
use Rattle.topos_model.specs.formulas.Typing.{ends_of}
use Rattle.topos_model.specs.formulas.Forcing.{World}
use Rattle.internal_interp.specs.declared.context.Context.{Context}
use Rattle.internal_interp.specs.declared.interpreter.Interpreter.{Interpreter}
use Rattle.internal_interp.specs.declared.interpreter.Valued.{Valued}
use Rattle.internal_interp.specs.Known.{IsKnown, IsValued}

pub record IsArgument (w : World) (maps : List MapTy) (i : Interpreter) (Γ : List Ty) (m : ℕ) (context : Context) (t : Term) (argument : Valued) : Type 0 where
  pub known : IsKnown w maps i Γ (ends_of maps m).dom context t
  pub stands : IsValued w Γ (ends_of maps m).dom t argument
