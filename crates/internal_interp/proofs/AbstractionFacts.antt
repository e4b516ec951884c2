-- Functions and sets in a known context, as the tables of terms take them.
use Rattle.std.proofs.Common.{◌≡◌, ℕ, Bool, List, [], get_or, sym, subst, ◌∙◌}
use Rattle.topos_model.specs.declared.ty.Ty.{Ty, Pow, Fun}
use Rattle.topos_model.specs.declared.term.Term.{Term, Lam, Compr}
use Rattle.topos_model.specs.declared.context.MapTy.{MapTy}
use Rattle.topos_model.specs.formulas.Forcing.{World}
use Rattle.forcing_laws.proofs.TupleLists.{In_tuples}
use Rattle.functor_store.specs.Faithful.{Holds}
use Rattle.formula_tables.specs.Formulas.{IsContext}
use Rattle.term_tables.specs.Parts.{IsSealed, IsFunctionBody, IsSubsetBody}
use Rattle.internal_interp.specs.declared.context.Context.{Context}
use Rattle.internal_interp.specs.declared.interpreter.Interpreter.{Interpreter}
use Rattle.internal_interp.specs.declared.interpreter.Valued.{Valued}
use Rattle.internal_interp.specs.Contexts.{widths_of}
use Rattle.internal_interp.specs.Abstractions.{IsFunctionFrom, IsSetFrom}
use Rattle.forcing_laws.proofs.NamedSheaves.{part_itself}
use Rattle.internal_interp.proofs.TermFacts.{type_served, means_of}

module _ (w : World) (maps : List MapTy) (i : Interpreter) (Γ : List Ty) (context : Context) where
  pub held_function : (S T : Ty) (t : Term) (body : Valued) → IsFunctionFrom w maps i Γ S T context t body → (whole : Ty) → whole ≡ Fun S T → Holds i.store.now whole
  held_function S T t body h whole e = subst (Holds i.store.now) (sym e) ((type_served w maps i Γ (Fun S T) context (Lam S t) h.known).1 (Fun S T) (part_itself (Fun S T)))

  pub held_set : (T : Ty) (inner : Context) (t : Term) (body : List (List Bool)) → IsSetFrom w maps i Γ T context inner t body → (whole : Ty) → whole ≡ Pow T → Holds i.store.now whole
  held_set T inner t body h whole e = subst (Holds i.store.now) (sym e) ((type_served w maps i Γ (Pow T) context (Compr T t) h.known).1 (Pow T) (part_itself (Pow T)))

  module _ (sizes : List ℕ) (e : sizes ≡ get_or context.sizes 0 []) (widths : List ℕ) where
    pub function_body : (S T : Ty) (t : Term) (body : Valued) → IsFunctionFrom w maps i Γ S T context t body → (whole : Ty) → whole ≡ Fun S T → (id : ℕ) → IsSealed i.store.now whole id → widths ≡ widths_of w S →
        IsFunctionBody w Γ S T t i.stages.now i.store.now context.place id sizes widths body.numbers
    unfolding widths_of
    function_body S T t body h whole is id sealed wide = record {
      known = subst (IsContext w Γ i.stages.now i.store.now context.place) (sym e) h.known.scope.known;
      variable = wide;
      type = subst (λ U. IsSealed i.store.now U id) is sealed;
      stands = h.stands.stands;
      elements = λ c a low m. (means_of w maps i Γ (Fun S T) context (Lam S t) h.known).value.within c a (record { low = low; fits = In_tuples w Γ c a m });
    }

    pub set_body : (T : Ty) (inner : Context) (t : Term) (body : List (List Bool)) → IsSetFrom w maps i Γ T context inner t body → (whole : Ty) → whole ≡ Pow T → (id : ℕ) → IsSealed i.store.now whole id → widths ≡ widths_of w T →
        (within : List ℕ) → within ≡ get_or inner.sizes 0 [] → IsSubsetBody w Γ T t i.stages.now i.store.now context.place id sizes within widths body
    unfolding widths_of
    set_body T inner t body h whole is id sealed wide within many = record {
      known = subst (IsContext w Γ i.stages.now i.store.now context.place) (sym e) h.known.scope.known;
      counted = many ∙ h.scope.known.counted;
      variable = wide;
      type = subst (λ U. IsSealed i.store.now U id) is sealed;
      stands = h.stands;
      elements = λ c a low m. (means_of w maps i Γ (Pow T) context (Compr T t) h.known).value.within c a (record { low = low; fits = In_tuples w Γ c a m });
    }
