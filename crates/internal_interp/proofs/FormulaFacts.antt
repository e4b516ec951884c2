-- Formulas in a known context, as the tables of formulas take them.
use Rattle.std.proofs.Common.{◌≡◌, ℕ, Bool, List, [], get_or, sym, subst}
use Rattle.topos_model.specs.declared.ty.Ty.{Ty}
use Rattle.topos_model.specs.declared.term.Term.{Term}
use Rattle.topos_model.specs.declared.context.MapTy.{MapTy}
use Rattle.topos_model.specs.formulas.Forcing.{World, forces}
use Rattle.formula_tables.specs.Formulas.{IsContext, AreFormulas, IsFormula, IsBody}
use Rattle.internal_interp.specs.declared.context.Context.{Context}
use Rattle.internal_interp.specs.declared.interpreter.Interpreter.{Interpreter}
use Rattle.internal_interp.specs.Contexts.{widths_of}
use Rattle.internal_interp.specs.Known.{IsScope}
use Rattle.internal_interp.specs.Formulas.{AreJoined, AreEquivalent, IsNegatedFrom, IsBoundFrom}

module _ (w : World) (maps : List MapTy) (i : Interpreter) (Γ : List Ty) (context : Context) (sizes : List ℕ) (e : sizes ≡ get_or context.sizes 0 []) where
  context_is : IsScope w maps i Γ context → IsContext w Γ i.stages.now i.store.now context.place sizes
  context_is scope = subst (IsContext w Γ i.stages.now i.store.now context.place) (sym e) scope.known

  pub joined_formulas : (t u : Term) (left right : List (List Bool)) → AreJoined w maps i Γ context t u left right →
      AreFormulas w Γ (forces w t) (forces w u) i.stages.now i.store.now context.place sizes left right
  joined_formulas t u left right h = record {
    known = context_is h.first.scope;
    left_stands = h.left_stands;
    right_stands = h.right_stands;
  }

  pub equivalent_formulas : (t u : Term) (left right : List (List Bool)) → AreEquivalent w maps i Γ context t u left right →
      AreFormulas w Γ (forces w t) (forces w u) i.stages.now i.store.now context.place sizes left right
  equivalent_formulas t u left right h = record {
    known = context_is h.first.scope;
    left_stands = h.left_stands;
    right_stands = h.right_stands;
  }

  pub negated_formula : (t : Term) (truths : List (List Bool)) → IsNegatedFrom w maps i Γ context t truths → IsFormula w Γ (forces w t) i.stages.now i.store.now context.place sizes truths
  negated_formula t truths h = record { known = context_is h.part.scope; stands = h.stands }

  pub bound_formula : (T : Ty) (t : Term) (body : List (List Bool)) (widths : List ℕ) → IsBoundFrom w maps i Γ context T t body → widths ≡ widths_of w T →
      IsBody w Γ T (forces w t) i.stages.now i.store.now context.place sizes widths body
  unfolding widths_of
  bound_formula T t body widths h wide = record { known = context_is h.binding.scope; widths_are = wide; stands = h.stands }
