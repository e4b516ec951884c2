-- What stands for a term in a context, for each world and type that it is known of.
use Rattle.std.specs.Prelude.{Bool, List}
use Rattle.topos_model.specs.declared.ty.Ty.{Ty, Omega}
use Rattle.topos_model.specs.declared.term.Term.{Term, And, Or, Implies, Forall, Exists, Unique}
use Rattle.topos_model.specs.declared.context.MapTy.{MapTy}
use Rattle.topos_model.specs.formulas.Forcing.{World, forces}
use Rattle.truth_tables.specs.declared.connectives.Connective.{Connective}
use Rattle.truth_tables.specs.declared.connectives.Connective.TheVariants.{And as Both, Or as Either, Implies as Only}
use Rattle.truth_tables.specs.declared.quantifiers.Quantifier.{Quantifier}
use Rattle.truth_tables.specs.declared.quantifiers.Quantifier.TheVariants.{Some, Every, One}
use Rattle.truth_tables.specs.Standing.{IsTruthTable}
use Rattle.internal_interp.specs.declared.context.Context.{Context}
use Rattle.internal_interp.specs.declared.interpreter.Interpreter.{Interpreter}
use Rattle.internal_interp.specs.declared.interpreter.Valued.{Valued}
use Rattle.internal_interp.specs.declared.interpreter.Interpreted.{Interpreted}
use Rattle.internal_interp.specs.Known.{IsKnown, IsValued, IsInterpreted}

module _ (i : Interpreter) (context : Context) (t : Term) where
  abbrev pub HasValues : Valued → Type 0
  HasValues v = (w : World) (maps : List MapTy) (Γ : List Ty) (U : Ty) → IsKnown w maps i Γ U context t → IsValued w Γ U t v

  abbrev pub HasTruths : List (List Bool) → Type 0
  HasTruths truths = (w : World) (maps : List MapTy) (Γ : List Ty) → IsKnown w maps i Γ Omega context t → IsTruthTable w Γ (forces w t) truths

  abbrev pub HasMeaning : Interpreted → Type 0
  HasMeaning interpreted = (w : World) (maps : List MapTy) (Γ : List Ty) (U : Ty) → IsKnown w maps i Γ U context t → IsInterpreted w Γ U t interpreted

-- two formulas under a connective, and a formula under a quantifier
abbrev pub connected_term : Connective → Term → Term → Term
connected_term Both t u = And t u
connected_term Either t u = Or t u
connected_term Only t u = Implies t u

abbrev pub quantified_term : Quantifier → Ty → Term → Term
quantified_term Some T t = Exists T t
quantified_term Every T t = Forall T t
quantified_term One T t = Unique T t
