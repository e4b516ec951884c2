-- Functions, equality and membership in a known context, as the tables of terms take them.
use Rattle.std.proofs.Common.{◌≡◌, ℕ, List, [], get_or, ap, subst, ◌∙◌}
use denote.Hole.Carrier
use Rattle.topos_model.specs.declared.ty.Ty.{Ty, out-Ty, Fun}
use Rattle.topos_model.specs.declared.ty.Ty.TheOpen.{Fun as IsFun}
use Rattle.topos_model.specs.declared.ty.Ty.TheBlock.{shown-the_row-Ty-0}
use Rattle.topos_model.specs.declared.term.Term.{Term}
use Rattle.topos_model.specs.declared.context.MapTy.{MapTy}
use Rattle.topos_model.specs.formulas.Forcing.{World}
use Rattle.term_tables.specs.Parts.{IsSealed, AreFunctionParts, AreMemberParts, AreAlike}
use Rattle.internal_interp.specs.declared.context.Context.{Context}
use Rattle.internal_interp.specs.declared.interpreter.Interpreter.{Interpreter}
use Rattle.internal_interp.specs.declared.interpreter.Valued.{Valued}
use Rattle.internal_interp.specs.Readings.{AreApplied, AreEquated, AreMember}
use Rattle.internal_interp.proofs.TermFacts.{context_known}

-- functions to other values are of other types
codomain_of : Ty → Ty
unfolding out-Ty
codomain_of T = elim (out-Ty T) [ IsFun S U ↦ U | _ ↦ T ]

pub same_codomain : (S T S' T' : Ty) → Fun S T ≡ Fun S' T' → T ≡ T'
unfolding codomain_of out-Ty Carrier.out shown-the_row-Ty-0 Carrier.shown Carrier.hidden
same_codomain S T S' T' e = ap codomain_of e

module _ (w : World) (maps : List MapTy) (i : Interpreter) (Γ : List Ty) (context : Context) (sizes : List ℕ) (e : sizes ≡ get_or context.sizes 0 []) where
  pub function_parts : (S T : Ty) (t u : Term) (function argument : Valued) → AreApplied w maps i Γ S T context t u function argument → (id : ℕ) → IsSealed i.store.now function.ty id →
      AreFunctionParts w Γ S T t u i.store.now id sizes function.numbers argument.numbers
  function_parts S T t u function argument h id sealed = record {
    context = context_known w maps i Γ context h.known sizes e;
    type = subst (λ U. IsSealed i.store.now U id) h.function_stands.type_is sealed;
    functions_stand = h.function_stands.stands;
    arguments_stand = h.argument_stands.stands;
  }

  pub equal_parts : (T : Ty) (t u : Term) (left right : Valued) → AreEquated w maps i Γ T context t u left right →
      AreAlike w Γ T t u sizes left.numbers right.numbers
  equal_parts T t u left right h = record {
    counted = e ∙ h.known.scope.known.counted;
    left_stands = h.left_stands.stands;
    right_stands = h.right_stands.stands;
  }

  pub member_parts : (T : Ty) (t u : Term) (element set : Valued) → AreMember w maps i Γ T context t u element set → (id : ℕ) → IsSealed i.store.now set.ty id →
      AreMemberParts w Γ T t u i.store.now id sizes element.numbers set.numbers
  member_parts T t u element set h id sealed = record {
    context = context_known w maps i Γ context h.known sizes e;
    type = subst (λ U. IsSealed i.store.now U id) h.set_stands.type_is sealed;
    elements_stand = h.element_stands.stands;
    subsets_stand = h.set_stands.stands;
  }
