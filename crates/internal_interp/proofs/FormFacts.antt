-- A term that is known, by what stands for its parts.
use Rattle.std.proofs.Common.{◌≡◌, ℕ, Bool, true, List, [], ◌∷◌, length, get_or, refl, sym, ap, subst, ◌∙◌}
use Rattle.std.proofs.lemmas.List.FromFn.{length-map-range_with_len}
use denote.Hole.Carrier
use Rattle.topos_model.specs.declared.ty.Ty.{Ty, Omega, Two, Pow, Fun}
use Rattle.topos_model.specs.declared.term.Term.{Term, Pair, Fst, Snd, App, Eval, Lam, Compr, Eq, Member, And, Or, Implies, Not, Forall, Exists, Unique, Truth, Falsity}
use Rattle.topos_model.specs.declared.term.Term.TheBlock.{hidden-the_row-Term-0}
use Rattle.topos_model.specs.declared.context.MapTy.{MapTy}
use Rattle.topos_model.specs.formulas.Typing.{ends_of}
use Rattle.topos_model.specs.formulas.Forcing.{World, meaning, forces, tuples, not_forced, falsity_forced}
use Rattle.functor_store.specs.Faithful.{Holds}
use Rattle.truth_tables.specs.declared.connectives.Connective.{Connective}
use Rattle.truth_tables.specs.declared.connectives.Connective.TheVariants.{And as Both, Or as Either, Implies as Only}
use Rattle.truth_tables.specs.declared.quantifiers.Quantifier.{Quantifier}
use Rattle.truth_tables.specs.declared.quantifiers.Quantifier.TheVariants.{Some, Every, One}
use Rattle.truth_tables.specs.Standing.{counts, IsTruthTable}
use Rattle.formula_tables.specs.Formulas.{connected_forced, quantified_forced}
use Rattle.internal_interp.specs.declared.context.Context.{Context}
use Rattle.internal_interp.specs.declared.interpreter.Interpreter.{Interpreter}
use Rattle.internal_interp.specs.declared.interpreter.Valued.{Valued}
use Rattle.internal_interp.specs.declared.interpreter.Interpreted.{Interpreted}
use Rattle.internal_interp.specs.declared.interpreter.Interpreted.TheVariants.{Formula}
use Rattle.internal_interp.specs.Known.{IsScope, IsKnown, IsValued, IsForced, IsInterpreted, ArePair, IsBinding}
use Rattle.internal_interp.specs.Images.{IsArgument}
use Rattle.internal_interp.specs.Readings.{AreApplied, AreEquated, AreMember}
use Rattle.internal_interp.specs.Abstractions.{IsFunctionFrom, IsSetFrom}
use Rattle.internal_interp.specs.Formulas.{AreJoined, AreEquivalent, IsNegatedFrom, IsBoundFrom}
use Rattle.internal_interp.specs.Interpretations.{HasValues, HasTruths, HasMeaning, connected_term, quantified_term}
use Rattle.forcing_laws.proofs.NamedSheaves.{part_itself}
use Rattle.internal_interp.proofs.TermFacts.{type_served}
use Rattle.internal_interp.proofs.Subterms as parts

module _ (w : World) (maps : List MapTy) (i : Interpreter) (Γ : List Ty) (context : Context) (U : Ty) where
  pub pair_known : (t u : Term) (left right : Valued) → IsKnown w maps i Γ U context (Pair t u) → HasValues i context t left → HasValues i context u right →
      (S : Ty) × (T : Ty) × ArePair w maps i Γ S T context t u left right × (U ≡ Two S T)
  pair_known t u left right k l r =
      let p = parts.pair_parts w maps i Γ context U (Pair t u) t u refl k in (
        p.first_type,
        p.second_type,
        record {
          first_known = p.first;
          second_known = p.second;
          product = subst (Holds i.store.now) p.type_is ((type_served w maps i Γ U context (Pair t u) k).1 U (part_itself U));
          first = l w maps Γ p.first_type p.first;
          second = r w maps Γ p.second_type p.second;
        },
        p.type_is,
      )

  pub first_known : (t : Term) (of : Valued) → IsKnown w maps i Γ U context (Fst t) → HasValues i context t of →
      (T : Ty) × IsKnown w maps i Γ (Two U T) context t × IsValued w Γ (Two U T) t of
  first_known t of k h = let p = parts.fst_part w maps i Γ context U (Fst t) t refl k in (p.other, p.part, h w maps Γ (Two U p.other) p.part)

  pub second_known : (t : Term) (of : Valued) → IsKnown w maps i Γ U context (Snd t) → HasValues i context t of →
      (S : Ty) × IsKnown w maps i Γ (Two S U) context t × IsValued w Γ (Two S U) t of
  second_known t of k h = let p = parts.snd_part w maps i Γ context U (Snd t) t refl k in (p.other, p.part, h w maps Γ (Two p.other U) p.part)

  pub image_known : (m : ℕ) (t : Term) (argument : Valued) → IsKnown w maps i Γ U context (App m t) → HasValues i context t argument →
      IsArgument w maps i Γ m context t argument × (U ≡ (ends_of maps m).cod)
  image_known m t argument k h =
      let p = parts.app_part w maps i Γ context U m (App m t) t refl k in (record { known = p.part; stands = h w maps Γ (ends_of maps m).dom p.part }, p.type_is)

  pub applied_known : (t u : Term) (function argument : Valued) → IsKnown w maps i Γ U context (Eval t u) → HasValues i context t function → HasValues i context u argument →
      (S : Ty) × AreApplied w maps i Γ S U context t u function argument
  applied_known t u function argument k l r =
      let p = parts.eval_parts w maps i Γ context U (Eval t u) t u refl k in
      (p.domain, record { known = p.function; function_stands = l w maps Γ (Fun p.domain U) p.function; argument_stands = r w maps Γ p.domain p.argument })

  pub equated_known : (t u : Term) (left right : Valued) → IsKnown w maps i Γ U context (Eq t u) → HasValues i context t left → HasValues i context u right →
      (T : Ty) × AreEquated w maps i Γ T context t u left right × (U ≡ Omega)
  equated_known t u left right k l r =
      let p = parts.eq_parts w maps i Γ context U (Eq t u) t u refl k in
      (p.common, record { known = p.first; left_stands = l w maps Γ p.common p.first; right_stands = r w maps Γ p.common p.second }, p.formula)

  -- where one side of an equation is a formula, both are of truth values
  formulas_of : (t u : Term) (p : parts.AreEqualParts w maps i Γ context U t u) → p.common ≡ Omega → parts.AreFormulaParts w maps i Γ context U t u
  formulas_of t u p e = record {
    first = subst (λ T. IsKnown w maps i Γ T context t) e p.first;
    second = subst (λ T. IsKnown w maps i Γ T context u) e p.second;
    formula = p.formula;
  }

  pub left_formula : (t u : Term) (left : List (List Bool)) → IsKnown w maps i Γ U context (Eq t u) → HasMeaning i context t (Formula left) → parts.AreFormulaParts w maps i Γ context U t u
  left_formula t u left k l = let p = parts.eq_parts w maps i Γ context U (Eq t u) t u refl k in formulas_of t u p (l w maps Γ p.common p.first).formula

  pub right_formula : (t u : Term) (right : List (List Bool)) → IsKnown w maps i Γ U context (Eq t u) → HasMeaning i context u (Formula right) → parts.AreFormulaParts w maps i Γ context U t u
  right_formula t u right k r = let p = parts.eq_parts w maps i Γ context U (Eq t u) t u refl k in formulas_of t u p (r w maps Γ p.common p.second).formula

  pub left_equivalent : (t u : Term) (left right : List (List Bool)) (other : Interpreted) → IsKnown w maps i Γ U context (Eq t u) → HasMeaning i context t (Formula left) → HasMeaning i context u other →
      (IsKnown w maps i Γ Omega context u → IsInterpreted w Γ Omega u other → IsTruthTable w Γ (forces w u) right) → AreEquivalent w maps i Γ context t u left right × (U ≡ Omega)
  left_equivalent t u left right other k l r stands =
      let p = left_formula t u left k l in
      (record { first = p.first; second = p.second; left_stands = (l w maps Γ Omega p.first).stands; right_stands = stands p.second (r w maps Γ Omega p.second) }, p.formula)

  pub right_equivalent : (t u : Term) (left right : List (List Bool)) (other : Interpreted) → IsKnown w maps i Γ U context (Eq t u) → HasMeaning i context t other → HasMeaning i context u (Formula right) →
      (IsKnown w maps i Γ Omega context t → IsInterpreted w Γ Omega t other → IsTruthTable w Γ (forces w t) left) → AreEquivalent w maps i Γ context t u left right × (U ≡ Omega)
  right_equivalent t u left right other k l r stands =
      let p = right_formula t u right k r in
      (record { first = p.first; second = p.second; left_stands = stands p.first (l w maps Γ Omega p.first); right_stands = (r w maps Γ Omega p.second).stands }, p.formula)

  pub member_known : (t u : Term) (element set : Valued) → IsKnown w maps i Γ U context (Member t u) → HasValues i context t element → HasValues i context u set →
      (T : Ty) × AreMember w maps i Γ T context t u element set × (U ≡ Omega)
  member_known t u element set k l r =
      let p = parts.member_parts w maps i Γ context U (Member t u) t u refl k in
      (p.common, record { known = p.set; element_stands = l w maps Γ p.common p.element; set_stands = r w maps Γ (Pow p.common) p.set }, p.formula)

  pub connected_parts : (k : Connective) (t u : Term) → IsKnown w maps i Γ U context (connected_term k t u) → parts.AreFormulaParts w maps i Γ context U t u
  connected_parts Both t u known = parts.and_parts w maps i Γ context U (And t u) t u refl known
  connected_parts Either t u known = parts.or_parts w maps i Γ context U (Or t u) t u refl known
  connected_parts Only t u known = parts.implies_parts w maps i Γ context U (Implies t u) t u refl known

  pub connected_known : (k : Connective) (t u : Term) (left right : List (List Bool)) → IsKnown w maps i Γ U context (connected_term k t u) → HasTruths i context t left → HasTruths i context u right →
      AreJoined w maps i Γ context t u left right × (U ≡ Omega)
  connected_known k t u left right known l r =
      let p = connected_parts k t u known in (record { first = p.first; left_stands = l w maps Γ p.first; right_stands = r w maps Γ p.second }, p.formula)

  pub connected_stands : (k : Connective) (t u : Term) (truths : List (List Bool)) → U ≡ Omega → IsTruthTable w Γ (connected_forced w k (forces w t) (forces w u)) truths → IsForced w Γ U (connected_term k t u) truths
  unfolding connected_forced meaning hidden-the_row-Term-0 Carrier.hidden
  connected_stands Both t u truths e h = record { formula = e; stands = h }
  connected_stands Either t u truths e h = record { formula = e; stands = h }
  connected_stands Only t u truths e h = record { formula = e; stands = h }

  pub negated_known : (t : Term) (truths : List (List Bool)) → IsKnown w maps i Γ U context (Not t) → HasTruths i context t truths → IsNegatedFrom w maps i Γ context t truths × (U ≡ Omega)
  negated_known t truths k h = let p = parts.not_part w maps i Γ context U (Not t) t refl k in (record { part = p.part; stands = h w maps Γ p.part }, p.formula)

  pub negated_stands : (t : Term) (truths : List (List Bool)) → U ≡ Omega → IsTruthTable w Γ (not_forced w (forces w t)) truths → IsForced w Γ U (Not t) truths
  unfolding meaning hidden-the_row-Term-0 Carrier.hidden
  negated_stands t truths e h = record { formula = e; stands = h }

  pub quantified_part : (q : Quantifier) (T : Ty) (t : Term) → IsKnown w maps i Γ U context (quantified_term q T t) → parts.IsQuantified w maps i Γ context U T t
  quantified_part Some T t known = parts.exists_part w maps i Γ context U T (Exists T t) t refl known
  quantified_part Every T t known = parts.forall_part w maps i Γ context U T (Forall T t) t refl known
  quantified_part One T t known = parts.unique_part w maps i Γ context U T (Unique T t) t refl known

  pub quantified_stands : (q : Quantifier) (T : Ty) (t : Term) (truths : List (List Bool)) → U ≡ Omega → IsTruthTable w Γ (quantified_forced w q T (forces w t)) truths → IsForced w Γ U (quantified_term q T t) truths
  unfolding quantified_forced meaning hidden-the_row-Term-0 Carrier.hidden
  quantified_stands Some T t truths e h = record { formula = e; stands = h }
  quantified_stands Every T t truths e h = record { formula = e; stands = h }
  quantified_stands One T t truths e h = record { formula = e; stands = h }

  -- a type of values by another name
  pub retyped : (V : Ty) (t : Term) (v : Valued) → U ≡ V → IsValued w Γ V t v → IsValued w Γ U t v
  retyped V t v e h = subst (λ T. IsValued w Γ T t v) (sym e) h

  pub truth_stands : (truths : List (List Bool)) → U ≡ Omega → IsTruthTable w Γ (λ c a. true) truths → IsForced w Γ U Truth truths
  unfolding meaning
  truth_stands truths e h = record { formula = e; stands = h }

  pub falsity_stands : (truths : List (List Bool)) → U ≡ Omega → IsTruthTable w Γ (falsity_forced w) truths → IsForced w Γ U Falsity truths
  unfolding meaning
  falsity_stands truths e h = record { formula = e; stands = h }

  -- terms with one variable more, whose context is bound
  module _ (S : Ty) (t : Term) (inner : Context) (bound : IsBinding w maps i Γ context S → IsScope w maps i (S ∷ Γ) inner) where
    pub function_known : (body : Valued) → IsKnown w maps i Γ U context (Lam S t) → HasValues i inner t body → (T : Ty) × IsFunctionFrom w maps i Γ S T context t body × (U ≡ Fun S T)
    function_known body k h =
        let p = parts.lam_part w maps i Γ context U S (Lam S t) t refl k in (
          p.codomain,
          record {
            known = subst (λ V. IsKnown w maps i Γ V context (Lam S t)) p.type_is k;
            binding = p.binding;
            stands = h w maps (S ∷ Γ) p.codomain (p.body inner (bound p.binding));
          },
          p.type_is,
        )

    pub set_known : (body : List (List Bool)) → IsKnown w maps i Γ U context (Compr S t) → HasTruths i inner t body → IsSetFrom w maps i Γ S context inner t body × (U ≡ Pow S)
    set_known body k h =
        let p = parts.compr_part w maps i Γ context U S (Compr S t) t refl k in (
          record {
            known = subst (λ V. IsKnown w maps i Γ V context (Compr S t)) p.type_is k;
            binding = p.binding;
            scope = bound p.binding;
            stands = h w maps (S ∷ Γ) (p.body inner (bound p.binding));
          },
          p.type_is,
        )

    pub bound_known : (q : Quantifier) (body : List (List Bool)) → IsKnown w maps i Γ U context (quantified_term q S t) → HasTruths i inner t body → IsBoundFrom w maps i Γ context S t body × (U ≡ Omega)
    bound_known q body k h =
        let p = quantified_part q S t k in (record { binding = p.binding; stands = h w maps (S ∷ Γ) (p.body inner (bound p.binding)) }, p.formula)

-- each context of a site has as many objects
pub as_many : (w : World) (maps : List MapTy) (i : Interpreter) (Γ Δ : List Ty) (context inner : Context) → IsScope w maps i Γ context → IsScope w maps i Δ inner →
    length (get_or inner.sizes 0 []) ≡ length (get_or context.sizes 0 [])
unfolding counts
as_many w maps i Γ Δ context inner outer h =
    ap length h.known.counted ∙ length-map-range_with_len (λ c. length (tuples w Δ c)) 0 w.site.category.objects ∙ sym (length-map-range_with_len (λ c. length (tuples w Γ c)) 0 w.site.category.objects)
    ∙ sym (ap length outer.known.counted)
