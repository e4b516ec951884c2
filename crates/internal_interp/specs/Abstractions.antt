-- Terms and formulas with one variable more, by their tables.
use Rattle.std.specs.Prelude.{Bool, List, ◌∷◌}
use Rattle.topos_model.specs.declared.ty.Ty.{Ty, Pow, Fun}
use Rattle.topos_model.specs.declared.term.Term.{Term, Lam, Compr}
use Rattle.topos_model.specs.declared.context.MapTy.{MapTy}
use Rattle.topos_model.specs.formulas.Forcing.{World, forces}
use Rattle.truth_tables.specs.Standing.{IsTruthTable}
use Rattle.internal_interp.specs.declared.context.Context.{Context}
use Rattle.internal_interp.specs.declared.interpreter.Interpreter.{Interpreter}
use Rattle.internal_interp.specs.declared.interpreter.Valued.{Valued}
use Rattle.internal_interp.specs.Known.{IsScope, IsKnown, IsBinding, IsValued}

module _ (w : World) (maps : List MapTy) (i : Interpreter) (Γ : List Ty) where
  pub record IsFunctionFrom (S T : Ty) (context : Context) (t : Term) (body : Valued) : Type 0 where
    pub known : IsKnown w maps i Γ (Fun S T) context (Lam S t)
    pub binding : IsBinding w maps i Γ context S
    pub stands : IsValued w (S ∷ Γ) T t body

  pub record IsSetFrom (T : Ty) (context inner : Context) (t : Term) (body : List (List Bool)) : Type 0 where
    pub known : IsKnown w maps i Γ (Pow T) context (Compr T t)
    pub binding : IsBinding w maps i Γ context T
    pub scope : IsScope w maps i (T ∷ Γ) inner
    pub stands : IsTruthTable w (T ∷ Γ) (forces w t) body
