-- Terms of functions and of sets, with what they are applied to.
use Rattle.std.specs.Prelude.{List}
use Rattle.topos_model.specs.declared.ty.Ty.{Ty, Pow, Fun}
use Rattle.topos_model.specs.declared.term.Term.{Term}
use Rattle.topos_model.specs.declared.context.MapTy.{MapTy}
use Rattle.topos_model.specs.formulas.Forcing.{World}
use Rattle.internal_interp.specs.declared.context.Context.{Context}
use Rattle.internal_interp.specs.declared.interpreter.Interpreter.{Interpreter}
use Rattle.internal_interp.specs.declared.interpreter.Valued.{Valued}
use Rattle.internal_interp.specs.Known.{IsKnown, IsValued}

module _ (w : World) (maps : List MapTy) (i : Interpreter) (Γ : List Ty) where
  pub record AreApplied (S T : Ty) (context : Context) (t u : Term) (function argument : Valued) : Type 0 where
    pub known : IsKnown w maps i Γ (Fun S T) context t
    pub function_stands : IsValued w Γ (Fun S T) t function
    pub argument_stands : IsValued w Γ S u argument

  pub record AreEquated (T : Ty) (context : Context) (t u : Term) (left right : Valued) : Type 0 where
    pub known : IsKnown w maps i Γ T context t
    pub left_stands : IsValued w Γ T t left
    pub right_stands : IsValued w Γ T u right

  pub record AreMember (T : Ty) (context : Context) (t u : Term) (element set : Valued) : Type 0 where
    pub known : IsKnown w maps i Γ (Pow T) context u
    pub element_stands : IsValued w Γ T t element
    pub set_stands : IsValued w Γ (Pow T) u set
