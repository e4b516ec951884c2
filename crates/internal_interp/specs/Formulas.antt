-- Formulas, by the tables of their parts in a known context.
use Rattle.std.specs.Prelude.{Bool, List, ◌∷◌}
use Rattle.topos_model.specs.declared.ty.Ty.{Ty, Omega}
use Rattle.topos_model.specs.declared.term.Term.{Term}
use Rattle.topos_model.specs.declared.context.MapTy.{MapTy}
use Rattle.topos_model.specs.formulas.Forcing.{World, forces}
use Rattle.truth_tables.specs.Standing.{IsTruthTable}
use Rattle.internal_interp.specs.declared.context.Context.{Context}
use Rattle.internal_interp.specs.declared.interpreter.Interpreter.{Interpreter}
use Rattle.internal_interp.specs.Known.{IsKnown, IsBinding}

module _ (w : World) (maps : List MapTy) (i : Interpreter) (Γ : List Ty) (context : Context) where
  pub record AreJoined (t u : Term) (left right : List (List Bool)) : Type 0 where
    pub first : IsKnown w maps i Γ Omega context t
    pub left_stands : IsTruthTable w Γ (forces w t) left
    pub right_stands : IsTruthTable w Γ (forces w u) right

  pub record AreEquivalent (t u : Term) (left right : List (List Bool)) : Type 0 where
    pub first : IsKnown w maps i Γ Omega context t
    pub second : IsKnown w maps i Γ Omega context u
    pub left_stands : IsTruthTable w Γ (forces w t) left
    pub right_stands : IsTruthTable w Γ (forces w u) right

  pub record IsNegatedFrom (t : Term) (truths : List (List Bool)) : Type 0 where
    pub part : IsKnown w maps i Γ Omega context t
    pub stands : IsTruthTable w Γ (forces w t) truths

  pub record IsBoundFrom (T : Ty) (t : Term) (body : List (List Bool)) : Type 0 where
    pub binding : IsBinding w maps i Γ context T
    pub stands : IsTruthTable w (T ∷ Γ) (forces w t) body
